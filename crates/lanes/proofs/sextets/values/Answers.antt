-- `lanes::sextets::values` meets its contract. Assumes nothing.
use Rattle.lanes.specs.Lanes.{rep}
use Rattle.lanes.proofs.LaneLaws.{lane_le, lane_sub}
use Rattle.lanes.proofs.SextetLaws.{no_less, raised, taken}
use Rattle.lanes.proofs.sextets.values.Goals as goal

pub overflow_sub-result : goal.overflow_sub-result
unfolding rep
overflow_sub-result c = lane_le no_less (raised c.args.x c.ranges.x.fits) (taken c.args.x c.ranges.x.fits)

pub returns : goal.returns
unfolding rep
returns c = lane_sub no_less (raised c.args.x c.ranges.x.fits) (taken c.args.x c.ranges.x.fits)
