-- `floats::whole::format_whole` meets its contract. Assumes nothing.
use mathlib.Core.Path.{sym}
use native.Mathlib.Omega.{arith}
use Rattle.output.proofs.Laws.{wrote_then}
use Rattle.floats.proofs.WholeLaws.{text_zero, text_parts}
use Rattle.floats.proofs.whole.format_whole.Goals as goal

pub returns-then-n-eq0 : goal.returns-then-n-eq0
returns-then-n-eq0 c = rw (c.if-n-eq0.true, sym text_zero) c.put_le.ensures

pub returns : goal.returns
returns c =
    let m = c.significant_of in
    let v = rw c.digit_count.ensures.0 at c.put_exponent.ensures in
    rw (text_parts c.args.n m.result (omega (arith, c.if-n-eq0.false)) m.ensures) (wrote_then c.put_point-p.ensures v)
