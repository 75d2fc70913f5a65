-- `tape::decimal_at` meets its contract. Assumes nothing.
use mathlib.Core.Path.{sym}
use native.Mathlib.Omega.{arith}
use mir.Syntax.{w32}
use mir.Val.{SFits}
use mir.ValLaws.{to_z-of_z}
use Rattle.tape.proofs.Parts.{part_length, part_byte, part-number}
use Rattle.tape.proofs.CodeReading.{decimal_short, decimal_over, decimal_some}
use borrow.Author.Rules.{rules}
use Rattle.tape.proofs.decimal_at.Goals as goal

pub returns-then-end-at-lt14 : goal.returns-then-end-at-lt14
returns-then-end-at-lt14 c =
    let a = c.args in
    let n = part_length a.tape.now a.at a.end c.requires.end_in_bounds in
    sym (decimal_short _ (omega arith))

pub returns-then-s-gt1 : goal.returns-then-s-gt1
returns-then-s-gt1 c =
    let a = c.args in
    let n = part_length a.tape.now a.at a.end c.requires.end_in_bounds in
    let b = part_byte a.tape.now a.at a.end 1 (omega arith) in
    sym (decimal_over _ (omega arith) (omega arith))

pub returns : goal.returns
returns c =
    let a = c.args in
    let n = part_length a.tape.now a.at a.end c.requires.end_in_bounds in
    let b = part_byte a.tape.now a.at a.end 1 (omega arith) in
    let m = part-number a.tape.now a.at a.end 8 2 (omega arith) in
    let x = part-number a.tape.now a.at a.end 4 10 (omega arith) in
    let z = c.exponent_of-e.result in
    let k : SFits w32 z = search rules in
    rw (to_z-of_z w32 z k, c.exponent_of-e.ensures, c.magnitude_of-m.ensures, ← b, ← m, ← x) (sym (decimal_some _ (omega arith) (omega arith)))
