-- `tape::check::text_size` meets its contract. Assumes nothing.
use mathlib.Core.Path.{◌≡◌, sym, ap, ◌∙◌}
use native.Mathlib.Omega.{arith}
use mathlib.Core.Bool.{true, false}
use Prim.Native.Nat.{◌-◌}
use lib.ListN.{take, drop}
use Rattle.text_rules.specs.Utf8.{valid}
use Rattle.tape.specs.Bytes.{part}
use Rattle.tape.specs.Tape.{text_fault}
use Rattle.tape.specs.CheckSteps.{code_of}
use Rattle.tape.proofs.Parts.{part_length}
use Rattle.tape.proofs.CodeFacts.{part_text, span_none, span-is, span_text}
use Rattle.tape.proofs.check.text_size.Goals as goal

pub returns-then-n-eq0 : goal.returns-then-n-eq0
returns-then-n-eq0 c =
    let a = c.args in
    let l = part a.tape.now a.at a.end in
    sym (ap (code_of text_fault) (span_none l (sym c.if-n-eq0.true ∙ c.span-n.ensures)))

pub overflow_sub-n : goal.overflow_sub-n
overflow_sub-n c =
    let a = c.args in
    let l = part a.tape.now a.at a.end in
    let n = part_length a.tape.now a.at a.end c.requires.end_in_bounds in
    let m = span-is l _ c.span-n.ensures c.if-n-eq0.false in
    let five = m.0 in
    let most = m.1 in
    omega arith

pub valid_part-requires : goal.valid_part-requires
valid_part-requires c =
    let a = c.args in
    let l = part a.tape.now a.at a.end in
    let n = part_length a.tape.now a.at a.end c.requires.end_in_bounds in
    let m = span-is l _ c.span-n.ensures c.if-n-eq0.false in
    let five = m.0 in
    let most = m.1 in
    omega arith

pub returns-then-valid_part : goal.returns-then-valid_part
unfolding text_fault
returns-then-valid_part c =
    let a = c.args in
    let l = part a.tape.now a.at a.end in
    let n = part_length a.tape.now a.at a.end c.requires.end_in_bounds in
    let m = span-is l _ c.span-n.ensures c.if-n-eq0.false in
    let five = m.0 in
    let most = m.1 in
    let i = c.span-n.result in
    let v : valid (take (i - 5) (drop 5 l)) ≡ true = ap valid (part_text a.tape.now a.at a.end (i - 5) (omega arith)) ∙ sym c.valid_part.ensures ∙ c.if-valid_part.true in
    rw (span_text l _ c.span-n.ensures c.if-n-eq0.false, v)

pub returns : goal.returns
unfolding text_fault
returns c =
    let a = c.args in
    let l = part a.tape.now a.at a.end in
    let n = part_length a.tape.now a.at a.end c.requires.end_in_bounds in
    let m = span-is l _ c.span-n.ensures c.if-n-eq0.false in
    let five = m.0 in
    let most = m.1 in
    let i = c.span-n.result in
    let v : valid (take (i - 5) (drop 5 l)) ≡ false = ap valid (part_text a.tape.now a.at a.end (i - 5) (omega arith)) ∙ sym c.valid_part.ensures ∙ c.if-valid_part.false in
    rw (span_text l _ c.span-n.ensures c.if-n-eq0.false, v)
