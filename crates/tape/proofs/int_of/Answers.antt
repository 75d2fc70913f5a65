-- `tape::int_of` meets its contract. Assumes nothing.
use mir.Syntax.{w64}
use mir.Val.{SFits}
use mir.ValLaws.{to_z-of_z}
use borrow.Author.Rules.{rules}
use Rattle.tape.proofs.int_of.Goals as goal

pub returns : goal.returns
returns c =
    let z = c.signed64.result in
    let k : SFits w64 z = search rules in
    rw (to_z-of_z w64 z k, c.signed64.ensures, c.u64_at.ensures)
