-- `blanks::mark_at` meets its contract. Assumes nothing.
use native.Mathlib.Omega.{arith}
use mathlib.Core.Path.{sym, ◌∙◌}
use Rattle.reader.proofs.Between.{mark_here, mark_none}
use Rattle.reader.proofs.blanks.mark_at.Goals as goal

pub overflow_add-result : goal.overflow_add-result
overflow_add-result c = omega (arith, c.stands.ensures.inside c.if-stands.true)

pub returns-then-stands : goal.returns-then-stands
returns-then-stands c =
    let x = c.args in
    let s = c.stands.ensures in
    (mark_here x.text.now x.at x.b (sym s.is ∙ c.if-stands.true), omega arith, omega (arith, s.inside c.if-stands.true))

pub returns-else-stands : goal.returns-else-stands
returns-else-stands c =
    let x = c.args in
    mark_none x.text.now x.at x.b (sym c.stands.ensures.is ∙ c.if-stands.false)
