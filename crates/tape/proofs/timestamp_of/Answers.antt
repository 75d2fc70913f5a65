-- `tape::timestamp_of` meets its contract. Assumes nothing.
use mathlib.Core.Path.{sym}
use mir.Syntax.{w16}
use mir.Val.{SFits}
use mir.ValLaws.{to_z-of_z}
use Rattle.tape.proofs.CodeReading.{timestamp-fields}
use borrow.Author.Rules.{rules}
use Rattle.tape.proofs.timestamp_of.Goals as goal

pub returns : goal.returns
returns c =
    let a = c.args in
    let z = c.signed16-offset.result in
    let k : SFits w16 z = search rules in
    rw (to_z-of_z w16 z k, c.signed16-offset.ensures, c.u16_at.ensures.0, c.u16_at-year.ensures.0, c.u32_at-fraction.ensures.0)
    (sym (timestamp-fields a.tape.now a.at))
