-- `scalars::untimed_at` meets its contract. Assumes nothing.
use mir.Syntax.{w32, w64}
use mir.Val.{SFits}
use mir.ValLaws.{to_z-of_z}
use borrow.Author.Rules.{rules}
use mathlib.Core.Path.{sym}
use Rattle.tape.specs.Tree.{encode}
use Rattle.reader.proofs.ScalarSteps.{untimed_numeral}
use Rattle.reader.proofs.scalars.untimed_at.Goals as goal

pub stands-requires : goal.stands-requires
stands-requires c =
    let i = c.in-Some-Int-default in
    let g = rw i.is at i.field-0-0-is in
    let k = rw (i.is, g) at c.numeral_at-n.ensures in
    k.place.1

pub returns-then-not-stands : goal.returns-then-not-stands
unfolding encode
returns-then-not-stands c =
    let i = c.in-Some-Int-default in
    let f : SFits w64 i.z = search rules in
    let g = rw i.is at i.field-0-0-is in
    let k = rw (i.is, g) at c.numeral_at-n.ensures in
    untimed_numeral _ k (sym c.if-not-stands.ensures.is) (rw (to_z-of_z w64 i.z f) at c.put_int-p.ensures)

pub stands-requires-in-Some-Decimal-default : goal.stands-requires-in-Some-Decimal-default
stands-requires-in-Some-Decimal-default c =
    let i = c.in-Some-Decimal-default in
    let g = rw i.is at i.field-0-0-is in
    let k = rw (i.is, g) at c.numeral_at-n.ensures in
    k.place.1

pub returns-then-not-stands-2 : goal.returns-then-not-stands-2
unfolding encode
returns-then-not-stands-2 c =
    let i = c.in-Some-Decimal-default in
    let f : SFits w32 i.x = search rules in
    let g = rw i.is at i.field-0-0-is in
    let k = rw (i.is, g) at c.numeral_at-n.ensures in
    untimed_numeral _ k (sym c.if-not-stands-2.ensures.is) (rw (to_z-of_z w32 i.x f) at c.put_decimal-p.ensures)

pub returns-in_err-s : goal.returns-in_err-s
returns-in_err-s c = rw c.from_residual.ensures c.in_err-s.ensures

pub returns : goal.returns
returns c = c.in_ok-s.ensures
