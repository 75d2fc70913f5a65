-- `lanes::not_raw` meets its contract. Assumes nothing.
use native.Mathlib.Omega.{arith}
use Rattle.lanes.specs.Lanes.{rep}
use Rattle.lanes.proofs.LaneLaws.{lane_self, lane_and, lane_or, lane_not, lane_lt, low_add, other_add}
use Rattle.lanes.proofs.not_raw.Goals as goal

pub overflow_add-r-2 : goal.overflow_add-r-2
unfolding rep
overflow_add-r-2 c = record { fits = lane_lt (other_add 0x22 c.args.x (omega arith) c.ranges.x.fits) }

pub overflow_add-r-3 : goal.overflow_add-r-3
unfolding rep
overflow_add-r-3 c = record { fits = lane_lt (other_add 0x27 c.args.x (omega arith) c.ranges.x.fits) }

pub overflow_add-r-4 : goal.overflow_add-r-4
unfolding rep
overflow_add-r-4 c = record { fits = lane_lt (other_add 0x5C c.args.x (omega arith) c.ranges.x.fits) }

pub returns : goal.returns
unfolding rep
returns c =
    let x = c.args.x in
    let h = c.ranges.x.fits in
    let r =
    lane_and
    (lane_and (lane_and (low_add 0x60 x (omega arith) h) (other_add 0x22 x (omega arith) h)) (other_add 0x27 x (omega arith) h))
    (other_add 0x5C x (omega arith) h) in
    lane_not (lane_or r (lane_self x h))
