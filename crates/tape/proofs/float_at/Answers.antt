-- `tape::float_at` meets its contract. Assumes nothing.
use mathlib.Core.Path.{sym, ap, ◌∙◌}
use native.Mathlib.Omega.{arith}
use Rattle.tape.proofs.Parts.{part_length, part-number}
use Rattle.tape.specs.Tape.{float_as}
use Rattle.tape.proofs.CodeReading.{float_short, float-some}
use Rattle.tape.proofs.float_at.Goals as goal

pub returns-then-end-at-lt9 : goal.returns-then-end-at-lt9
returns-then-end-at-lt9 c =
    let a = c.args in
    let n = part_length a.tape.now a.at a.end c.requires.end_in_bounds in
    sym (float_short _ (omega arith))

pub returns : goal.returns
returns c =
    let a = c.args in
    let n = part_length a.tape.now a.at a.end c.requires.end_in_bounds in
    let u = part-number a.tape.now a.at a.end 8 1 (omega arith) in
    c.float_of.ensures _ ∙ ap float_as (c.u64_at.ensures ∙ sym u) ∙ sym (float-some _ (omega arith))
