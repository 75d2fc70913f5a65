-- `lanes::letters` meets its contract. Assumes nothing.
use native.Mathlib.Omega.{arith}
use Rattle.lanes.specs.Lanes.{rep}
use Rattle.lanes.proofs.LaneLaws.{lane_and, lane_or, lane_not, lane_lt, case_add, other_add}
use Rattle.lanes.proofs.letters.Goals as goal

pub overflow_add-result : goal.overflow_add-result
unfolding rep
overflow_add-result c = record { fits = lane_lt (case_add 0x1F c.args.x (omega arith) c.ranges.x.fits) }

pub overflow_add-result-2 : goal.overflow_add-result-2
unfolding rep
overflow_add-result-2 c = record { fits = lane_lt (case_add 0x05 c.args.x (omega arith) c.ranges.x.fits) }

pub overflow_add-result-3 : goal.overflow_add-result-3
unfolding rep
overflow_add-result-3 c = record { fits = lane_lt (other_add 0x5F c.args.x (omega arith) c.ranges.x.fits) }

pub returns : goal.returns
unfolding rep
returns c =
    let x = c.args.x in
    let h = c.ranges.x.fits in
    lane_or
    (lane_and (case_add 0x1F x (omega arith) h) (lane_not (case_add 0x05 x (omega arith) h)))
    (lane_not (other_add 0x5F x (omega arith) h))
