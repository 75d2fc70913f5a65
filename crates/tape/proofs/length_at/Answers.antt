-- `tape::length_at` meets its contract. Assumes nothing.
use mathlib.Core.Path.{sym}
use native.Mathlib.Omega.{arith}
use Rattle.tape.proofs.Parts.{part_length, part-number}
use Rattle.tape.proofs.CodeReading.{length_short, length_over, length_some}
use Rattle.tape.proofs.length_at.Goals as goal

pub returns-then-end-at-lt5 : goal.returns-then-end-at-lt5
returns-then-end-at-lt5 c =
    let a = c.args in
    let n = part_length a.tape.now a.at a.end c.requires.end_in_bounds in
    sym (length_short _ (omega arith))

pub returns-then-n-end : goal.returns-then-n-end
returns-then-n-end c =
    let a = c.args in
    let n = part_length a.tape.now a.at a.end c.requires.end_in_bounds in
    let u = part-number a.tape.now a.at a.end 4 1 (omega arith) in
    rw (c.u32_at-n.ensures.0, ← u) (sym (length_some _ (omega arith)))

pub returns-else-n-end : goal.returns-else-n-end
returns-else-n-end c =
    let a = c.args in
    let n = part_length a.tape.now a.at a.end c.requires.end_in_bounds in
    let u = part-number a.tape.now a.at a.end 4 1 (omega arith) in
    sym (length_over _ (omega arith))
