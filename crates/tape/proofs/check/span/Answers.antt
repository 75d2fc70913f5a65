-- `tape::check::span` meets its contract. Assumes nothing.
use mathlib.Core.Path.{sym}
use native.Mathlib.Omega.{arith}
use Rattle.tape.specs.Bytes.{part}
use Rattle.tape.proofs.Parts.{part_length, part-number}
use Rattle.tape.proofs.CodeFacts.{span_short, span_over, span_fits}
use Rattle.tape.proofs.check.span.Goals as goal

pub returns-then-end-at-lt5 : goal.returns-then-end-at-lt5
returns-then-end-at-lt5 c =
    let a = c.args in
    let l = part a.tape.now a.at a.end in
    let n = part_length a.tape.now a.at a.end c.requires.end_in_bounds in
    sym (span_short l (omega arith))

pub returns-then-end-at : goal.returns-then-end-at
returns-then-end-at c =
    let a = c.args in
    let l = part a.tape.now a.at a.end in
    let n = part_length a.tape.now a.at a.end c.requires.end_in_bounds in
    let u = part-number a.tape.now a.at a.end 4 1 (omega arith) in
    sym (span_over l (omega arith))

pub returns : goal.returns
returns c =
    let a = c.args in
    let l = part a.tape.now a.at a.end in
    let n = part_length a.tape.now a.at a.end c.requires.end_in_bounds in
    let u = part-number a.tape.now a.at a.end 4 1 (omega arith) in
    rw (c.u32_at-n.ensures.0, ← u) (sym (span_fits l (omega arith)))
