-- `numbers::numeral::behind_point` meets its contract. Assumes nothing.
use native.Mathlib.Omega.{arith}
use mathlib.Core.Path.{refl, sym}
use Rattle.numbers.specs.Numeral.{behind_point}
use Rattle.text_rules.proofs.ReadingLaws.{reads_from}
use Rattle.text_rules.proofs.Places.{next}
use Rattle.numbers.proofs.numeral.behind_point.Goals as goal

pub behind_d-requires : goal.behind_d-requires
behind_d-requires c = omega (arith, c.if-stands.ensures.inside refl)

pub returns-then-stands : goal.returns-then-stands
unfolding behind_point
returns-then-stands c =
    let x = c.args in
    let t = x.text.now in
    rw (sym c.if-stands.ensures.is, next t x.at) (reads_from c.behind_d.ensures (omega arith))

pub returns : goal.returns
unfolding behind_point
returns c =
    let x = c.args in
    let t = x.text.now in
    rw (sym c.if-stands.ensures.is) (c.decimal_of.ensures t c.requires)
