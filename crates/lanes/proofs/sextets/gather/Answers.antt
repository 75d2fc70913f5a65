-- `lanes::sextets::gather` meets its contract. Assumes nothing.
use Rattle.lanes.proofs.SextetLaws.{gather_word}
use Rattle.lanes.proofs.sextets.gather.Goals as goal

pub returns : goal.returns
returns c = gather_word c.args.v c.ranges.v.fits
