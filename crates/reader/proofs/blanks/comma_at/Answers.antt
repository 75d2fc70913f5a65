-- `blanks::comma_at` meets its contract. Assumes nothing.
use native.Mathlib.Omega.{arith}
use mathlib.Core.Path.{sym, ◌∙◌}
use Rattle.text_rules.proofs.Places.{next}
use Rattle.reader.specs.Grammar.{comma}
use Rattle.reader.proofs.blanks.comma_at.Goals as goal

pub overflow_add-result : goal.overflow_add-result
overflow_add-result c = omega (arith, c.stands.ensures.inside c.if-stands.true)

pub returns-then-stands : goal.returns-then-stands
unfolding comma
returns-then-stands c =
    let t = c.args.text.now in
    let s = c.skip_blanks-a in
    let k = c.stands.ensures in
    (rw (← s.ensures.is, sym k.is ∙ c.if-stands.true, next t s.result), omega arith, omega (arith, k.inside c.if-stands.true))

pub returns-then-stands-2 : goal.returns-then-stands-2
unfolding comma
returns-then-stands-2 c =
    let s = c.skip_blanks-a in
    (rw (← s.ensures.is, sym c.stands.ensures.is ∙ c.if-stands.false, sym c.stands-2.ensures.is ∙ c.if-stands-2.true), omega arith, omega arith)

pub returns : goal.returns
unfolding comma
returns c =
    let s = c.skip_blanks-a in
    rw (← s.ensures.is, sym c.stands.ensures.is ∙ c.if-stands.false, sym c.stands-2.ensures.is ∙ c.if-stands-2.false)
