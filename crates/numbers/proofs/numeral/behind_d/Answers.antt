-- `numbers::numeral::behind_d` meets its contract. Assumes nothing.
use native.Mathlib.Omega.{arith}
use mathlib.Core.Path.{refl, sym}
use Rattle.numbers.specs.Numeral.{behind_d}
use Rattle.text_rules.proofs.ReadingLaws.{reads_from}
use Rattle.text_rules.proofs.Places.{next}
use Rattle.numbers.proofs.numeral.behind_d.Goals as goal

pub power_at-requires : goal.power_at-requires
power_at-requires c = omega (arith, c.if-stands.ensures.inside refl)

pub returns-then-stands : goal.returns-then-stands
unfolding behind_d
returns-then-stands c =
    let x = c.args in
    let t = x.text.now in
    rw (sym c.if-stands.ensures.is, next t x.at) (reads_from c.power_at.ensures (omega arith))

pub power_at-requires-then-stands-2 : goal.power_at-requires-then-stands-2
power_at-requires-then-stands-2 c = omega (arith, c.if-stands-2.ensures.inside refl)

pub returns-then-stands-2 : goal.returns-then-stands-2
unfolding behind_d
returns-then-stands-2 c =
    let x = c.args in
    let t = x.text.now in
    rw (sym c.if-stands.ensures.is, sym c.if-stands-2.ensures.is, next t x.at) (reads_from c.power_at-then-stands-2.ensures (omega arith))

pub returns : goal.returns
unfolding behind_d
returns c =
    let x = c.args in
    let t = x.text.now in
    rw (sym c.if-stands.ensures.is, sym c.if-stands-2.ensures.is) c.power_at-2.ensures
