-- `lanes::is_ascii` meets its contract. Assumes nothing.
use Rattle.lanes.proofs.LaneLaws.{lane_self, unmarked}
use Rattle.lanes.proofs.is_ascii.Goals as goal

pub returns : goal.returns
returns c = rw c.high_bits.ensures (unmarked (lane_self c.args.x c.ranges.x.fits) c.args.n c.requires.1)
