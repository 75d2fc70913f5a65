-- `lanes::is_raw_word` meets its contract. Assumes nothing.
use Rattle.lanes.proofs.LaneLaws.{unmarked}
use Rattle.lanes.proofs.is_raw_word.Goals as goal

pub returns : goal.returns
returns c = rw c.high_bits.ensures (unmarked c.not_raw.ensures c.args.n c.requires.1)
