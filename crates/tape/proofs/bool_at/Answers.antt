-- `tape::bool_at` meets its contract. Assumes nothing.
use mathlib.Core.Path.{sym}
use native.Mathlib.Omega.{arith}
use Rattle.tape.proofs.Parts.{part_length, part_byte}
use Rattle.tape.proofs.CodeReading.{byte_short, byte_over, byte_some}
use Rattle.tape.proofs.bool_at.Goals as goal

pub returns-then-end-at-lt2 : goal.returns-then-end-at-lt2
returns-then-end-at-lt2 c =
    let a = c.args in
    let n = part_length a.tape.now a.at a.end c.requires.end_in_bounds in
    sym (byte_short _ _ _ (omega arith))

pub returns-then-t-le1 : goal.returns-then-t-le1
returns-then-t-le1 c =
    let a = c.args in
    let n = part_length a.tape.now a.at a.end c.requires.end_in_bounds in
    let b = part_byte a.tape.now a.at a.end 1 (omega arith) in
    rw (← b) (sym (byte_some _ 1 _ (omega arith) (omega arith)))

pub returns-else-t-le1 : goal.returns-else-t-le1
returns-else-t-le1 c =
    let a = c.args in
    let n = part_length a.tape.now a.at a.end c.requires.end_in_bounds in
    let b = part_byte a.tape.now a.at a.end 1 (omega arith) in
    sym (byte_over _ 1 _ (omega arith))
