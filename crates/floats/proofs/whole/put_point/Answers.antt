-- `floats::whole::put_point` meets its contract. Assumes nothing.
use mathlib.Core.Path.{sym, ◌∙◌}
use native.Mathlib.Omega.{arith}
use Rattle.output.proofs.Laws.{wrote_then}
use Rattle.floats.proofs.WholeLaws.{point_one, point_more}
use Rattle.floats.proofs.whole.put_point.Goals as goal

pub returns-then-w-eq1 : goal.returns-then-w-eq1
returns-then-w-eq1 c = rw (point_one c.args.m (sym c.digit_count-w.ensures.0 ∙ c.if-w-eq1.true)) c.put_digits.ensures

pub returns : goal.returns
returns c =
    let x = c.args in
    let w = c.digit_count-w in
    let v = rw (c.digit_of-d.ensures, c.pow10.ensures.0) at c.put_two-p.ensures in
    rw (point_more x.m w.result w.ensures.0 (omega (arith, c.if-w-le8.false))) (wrote_then v c.put_padded.ensures)
