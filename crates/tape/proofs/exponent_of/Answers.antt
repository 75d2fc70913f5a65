-- `tape::exponent_of` meets its contract. Assumes nothing.
use mir.Syntax.{w32}
use mir.Val.{SFits}
use mir.ValLaws.{to_z-of_z}
use borrow.Author.Rules.{rules}
use Rattle.tape.proofs.exponent_of.Goals as goal

pub returns : goal.returns
returns c =
    let z = c.signed32.result in
    let k : SFits w32 z = search rules in
    rw (to_z-of_z w32 z k, c.signed32.ensures, c.u32_at.ensures.0)
