-- `tape::int_at` meets its contract. Assumes nothing.
use mathlib.Core.Path.{sym}
use native.Mathlib.Omega.{arith}
use mir.Syntax.{w64}
use mir.Val.{SFits}
use mir.ValLaws.{to_z-of_z}
use Rattle.tape.proofs.Parts.{part_length, part-number}
use Rattle.tape.proofs.CodeReading.{int_short, int_some}
use borrow.Author.Rules.{rules}
use Rattle.tape.proofs.int_at.Goals as goal

pub returns-then-end-at-lt9 : goal.returns-then-end-at-lt9
returns-then-end-at-lt9 c =
    let a = c.args in
    let n = part_length a.tape.now a.at a.end c.requires.end_in_bounds in
    sym (int_short _ (omega arith))

pub returns : goal.returns
returns c =
    let a = c.args in
    let n = part_length a.tape.now a.at a.end c.requires.end_in_bounds in
    let z = c.int_of.result in
    let k : SFits w64 z = search rules in
    let u = part-number a.tape.now a.at a.end 8 1 (omega arith) in
    rw (to_z-of_z w64 z k, c.int_of.ensures, ← u) (sym (int_some _ (omega arith)))
