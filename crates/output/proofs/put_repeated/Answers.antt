-- `output::put_repeated` meets its contract. Assumes nothing.
use mathlib.Core.Path.{sym}
use Rattle.output.proofs.Words.{le-repeated}
use Rattle.output.proofs.put_repeated.Goals as goal

pub returns-then-n-le8 : goal.returns-then-n-le8
returns-then-n-le8 c = rw (sym (le-repeated c.args.n c.args.x c.if-n-le8.true c.ranges.x.fits)) (rw c.from.ensures at c.put_le.ensures)
