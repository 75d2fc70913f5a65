-- `lanes::is_identifier_word` meets its contract. Assumes nothing.
use native.Mathlib.Omega.{arith}
use Rattle.lanes.specs.Lanes.{rep}
use Rattle.lanes.proofs.LaneLaws.{lane_self, lane_and, lane_or, lane_not, lane_lt, low_add, other_add, unmarked}
use Rattle.lanes.proofs.is_identifier_word.Goals as goal

pub overflow_add-m-3 : goal.overflow_add-m-3
unfolding rep
overflow_add-m-3 c = record { fits = lane_lt (other_add 0x24 c.args.x (omega arith) c.ranges.x.fits) }

pub returns : goal.returns
unfolding rep
returns c =
    let x = c.args.x in
    let h = c.ranges.x.fits in
    let m =
    lane_or
    (lane_or c.letters.ensures (lane_and (low_add 0x50 x (omega arith) h) (lane_not (low_add 0x46 x (omega arith) h))))
    (lane_not (other_add 0x24 x (omega arith) h)) in
    rw c.high_bits.ensures (unmarked (lane_or (lane_not m) (lane_self x h)) c.args.n c.requires.1)
