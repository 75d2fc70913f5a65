-- `lanes::sextets::is_base64` meets its contract. Assumes nothing.
use native.Mathlib.Omega.{arith}
use Rattle.lanes.specs.Lanes.{rep}
use Rattle.lanes.proofs.LaneLaws.{lane_self, lane_and, lane_or, lane_not, lane_lt, low_add, other_add, unmarked}
use Rattle.lanes.proofs.sextets.is_base64.Goals as goal

pub overflow_add-m-7 : goal.overflow_add-m-7
unfolding rep
overflow_add-m-7 c = record { fits = lane_lt (other_add 0x2B c.args.x (omega arith) c.ranges.x.fits) }

pub overflow_add-m-8 : goal.overflow_add-m-8
unfolding rep
overflow_add-m-8 c = record { fits = lane_lt (other_add 0x2F c.args.x (omega arith) c.ranges.x.fits) }

pub returns : goal.returns
unfolding rep
returns c =
    let x = c.args.x in
    let h = c.ranges.x.fits in
    let capital = lane_and (low_add 0x3F x (omega arith) h) (lane_not (low_add 0x25 x (omega arith) h)) in
    let small = lane_and (low_add 0x1F x (omega arith) h) (lane_not (low_add 0x05 x (omega arith) h)) in
    let digit = lane_and (low_add 0x50 x (omega arith) h) (lane_not (low_add 0x46 x (omega arith) h)) in
    let m =
    lane_or
    (lane_or (lane_or (lane_or capital small) digit) (lane_not (other_add 0x2B x (omega arith) h)))
    (lane_not (other_add 0x2F x (omega arith) h)) in
    unmarked (lane_or (lane_not m) (lane_self x h)) 8 (omega arith)
