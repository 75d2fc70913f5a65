-- `floats::whole::behind_all` meets its contract. Assumes nothing.
use native.Mathlib.Omega.{arith}
use mathlib.Core.Path.{refl, sym}
use Rattle.text_rules.proofs.Places.{next}
use Rattle.text_rules.proofs.ReadingLaws.{refused, reads_from}
use Rattle.floats.specs.Whole.{behind_all}
use Rattle.floats.proofs.whole.behind_all.Goals as goal

pub behind_e-requires : goal.behind_e-requires
behind_e-requires c = omega (arith, c.if-stands.ensures.inside refl)

pub returns-then-stands : goal.returns-then-stands
unfolding behind_all
returns-then-stands c =
    let x = c.args in
    rw (sym c.if-stands.ensures.is, next x.text.now x.at) (reads_from c.behind_e.ensures (omega arith))

pub returns : goal.returns
unfolding behind_all
returns c = refused (rw (sym c.if-stands.ensures.is))
