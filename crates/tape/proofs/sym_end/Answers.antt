-- `tape::sym_end` meets its contract. Assumes nothing.
use mathlib.Core.Path.{ap, ◌∙◌}
use native.Mathlib.Omega.{arith}
use borrow.Author.Rules.{rules}
use Rattle.std.specs.Prelude.{Some}
use Rattle.tape.specs.Bytes.{part}
use Rattle.tape.proofs.Parts.{part_length, part-first}
use Rattle.tape.proofs.CodeReading.{sym-text, sym_id, sym_none, sym_short, length-within}
use Rattle.tape.proofs.sym_end.Goals as goal

pub returns-then-end-at-lt5 : goal.returns-then-end-at-lt5
returns-then-end-at-lt5 c =
    let a = c.args in
    let l = part a.tape.now a.at a.end in
    let n = part_length a.tape.now a.at a.end c.requires.end_in_bounds in
    rw (sym_short l (omega arith))

pub returns-in_err-length_at-in-6 : goal.returns-in_err-length_at-in-6
returns-in_err-length_at-in-6 c =
    let a = c.args in
    let l = part a.tape.now a.at a.end in
    let f = part-first a.tape.now a.at a.end (omega arith) in
    rw (sym-text l _ (f ∙ c.in-6.is) c.in_err-length_at-in-6.ensures) c.from_residual.ensures

pub overflow_add-result-in-6 : goal.overflow_add-result-in-6
overflow_add-result-in-6 c =
    let a = c.args in
    let l = part a.tape.now a.at a.end in
    let n = part_length a.tape.now a.at a.end c.requires.end_in_bounds in
    let w = length-within l _ c.in_ok-length_at-in-6.ensures in
    search rules

pub returns-in_ok-length_at-in-6 : goal.returns-in_ok-length_at-in-6
returns-in_ok-length_at-in-6 c =
    let a = c.args in
    let l = part a.tape.now a.at a.end in
    let f = part-first a.tape.now a.at a.end (omega arith) in
    rw (sym-text l _ (f ∙ c.in-6.is) c.in_ok-length_at-in-6.ensures) (ap Some (omega arith))

pub returns-in-7 : goal.returns-in-7
returns-in-7 c =
    let a = c.args in
    let l = part a.tape.now a.at a.end in
    let n = part_length a.tape.now a.at a.end c.requires.end_in_bounds in
    let f = part-first a.tape.now a.at a.end (omega arith) in
    rw (sym_id l (f ∙ c.in-7.is) (omega arith))

pub returns-in_default : goal.returns-in_default
returns-in_default c =
    let a = c.args in
    let l = part a.tape.now a.at a.end in
    let f = part-first a.tape.now a.at a.end (omega arith) in
    rw (sym_none l (λ e. omega arith) (λ e. omega arith))
