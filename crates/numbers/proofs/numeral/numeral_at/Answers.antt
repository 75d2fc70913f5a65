-- `numbers::numeral::numeral_at` meets its contract. Assumes nothing.
use native.Mathlib.Omega.{arith}
use mathlib.Core.Path.{sym, ◌∙◌}
use Rattle.numbers.specs.Numeral.{numeral}
use Rattle.text_rules.proofs.ReadingLaws.{reads_from}
use Rattle.text_rules.proofs.Places.{next}
use Rattle.numbers.proofs.numeral.numeral_at.Goals as goal
use Rattle.numbers.proofs.numeral.numeral_at.Goals.{then-neg, else-neg}

pub unsigned_at-requires : goal.unsigned_at-requires
unsigned_at-requires c =
    let i = c.stands-neg.ensures.inside in
    elim c.if-neg.branch [ then-neg w ↦ omega (arith, i w.if-neg.true) | else-neg w ↦ omega arith ]

pub returns : goal.returns
unfolding numeral
returns c =
    let x = c.args in
    let t = x.text.now in
    let s = c.stands-neg.ensures.is in
    elim c.if-neg.branch [
      | then-neg w ↦ (let g = rw (w.if-neg.true, w.from-is) at c.unsigned_at.ensures in rw (sym s ∙ w.if-neg.true, next t x.at) (reads_from g (omega arith)))
      | else-neg w ↦ (let g = rw (w.if-neg.false, w.from-is) at c.unsigned_at.ensures in rw (sym s ∙ w.if-neg.false) g)
    ]
