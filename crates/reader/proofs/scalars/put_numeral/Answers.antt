-- `scalars::put_numeral` meets its contract. Assumes nothing.
use mir.Syntax.{w32, w64}
use mir.Val.{SFits}
use mir.ValLaws.{to_z-of_z}
use borrow.Author.Rules.{rules}
use Rattle.tokens.proofs.Keeping.{kept_all}
use Rattle.tape.specs.Tree.{encode}
use Rattle.reader.specs.Grammar.{numeral_node}
use Rattle.reader.proofs.ScalarSteps.{taken_none, read_some}
use Rattle.reader.proofs.scalars.put_numeral.Goals as goal

pub returns-in-Some-Int-default : goal.returns-in-Some-Int-default
unfolding encode
returns-in-Some-Int-default c =
    λ text lo o r.
    let i = c.in-Some-Int-default in
    let g = rw i.is at i.field-0-0-is in
    let f : SFits w64 i.z = search rules in
    read_some numeral_node _ (rw (i.is, g) at r) (rw (to_z-of_z w64 i.z f) at c.put_int-p.ensures)

pub returns-in-Some-Decimal-default : goal.returns-in-Some-Decimal-default
unfolding encode
returns-in-Some-Decimal-default c =
    λ text lo o r.
    let i = c.in-Some-Decimal-default in
    let g = rw i.is at i.field-0-0-is in
    let f : SFits w32 i.x = search rules in
    read_some numeral_node _ (rw (i.is, g) at r) (rw (to_z-of_z w32 i.x f) at c.put_decimal-p.ensures)

pub returns-in-None : goal.returns-in-None
returns-in-None c = λ text lo o r. let k = rw c.in-None.is at r in (taken_none numeral_node k.is, kept_all)
