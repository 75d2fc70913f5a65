-- `lanes::is_letter_word` meets its contract. Assumes nothing.
use Rattle.lanes.proofs.LaneLaws.{lane_self, lane_or, lane_not, unmarked}
use Rattle.lanes.proofs.is_letter_word.Goals as goal

pub returns : goal.returns
returns c =
    rw c.high_bits.ensures (unmarked (lane_or (lane_not c.letters.ensures) (lane_self c.args.x c.ranges.x.fits)) c.args.n c.requires.1)
