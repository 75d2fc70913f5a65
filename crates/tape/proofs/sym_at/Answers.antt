-- `tape::sym_at` meets its contract. Assumes nothing.
use mathlib.Core.Path.{sym, ◌∙◌}
use native.Mathlib.Omega.{arith}
use Rattle.tape.specs.Bytes.{part}
use Rattle.tape.proofs.Parts.{part_length, part-first, part-number}
use Rattle.tape.proofs.CodeReading.{sym-text, sym_id, sym_none, sym_short}
use Rattle.tape.proofs.sym_at.Goals as goal

pub returns-then-at-end : goal.returns-then-at-end
returns-then-at-end c =
    let a = c.args in
    let n = part_length a.tape.now a.at a.end c.requires.end_in_bounds in
    sym (sym_short _ (omega arith))

pub returns-in_err-length_at-in-6 : goal.returns-in_err-length_at-in-6
returns-in_err-length_at-in-6 c =
    let a = c.args in
    let l = part a.tape.now a.at a.end in
    let f = part-first a.tape.now a.at a.end (omega arith) in
    rw c.from_residual.ensures (sym (sym-text l _ (f ∙ c.in-6.is) c.in_err-length_at-in-6.ensures))

pub returns-in_ok-length_at-in-6 : goal.returns-in_ok-length_at-in-6
returns-in_ok-length_at-in-6 c =
    let a = c.args in
    let l = part a.tape.now a.at a.end in
    let f = part-first a.tape.now a.at a.end (omega arith) in
    sym (sym-text l _ (f ∙ c.in-6.is) c.in_ok-length_at-in-6.ensures)

pub returns-then-end-at-lt5 : goal.returns-then-end-at-lt5
returns-then-end-at-lt5 c =
    let a = c.args in
    let l = part a.tape.now a.at a.end in
    let n = part_length a.tape.now a.at a.end c.requires.end_in_bounds in
    sym (sym_short l (omega arith))

pub returns-else-end-at-lt5 : goal.returns-else-end-at-lt5
returns-else-end-at-lt5 c =
    let a = c.args in
    let l = part a.tape.now a.at a.end in
    let n = part_length a.tape.now a.at a.end c.requires.end_in_bounds in
    let f = part-first a.tape.now a.at a.end (omega arith) in
    let u = part-number a.tape.now a.at a.end 4 1 (omega arith) in
    rw (c.u32_at.ensures.0, ← u) (sym (sym_id l (f ∙ c.in-7.is) (omega arith)))

pub returns-in_default : goal.returns-in_default
returns-in_default c =
    let a = c.args in
    let l = part a.tape.now a.at a.end in
    let f = part-first a.tape.now a.at a.end (omega arith) in
    sym (sym_none l (λ e. omega arith) (λ e. omega arith))
