-- `lanes::sextets::spread` meets its contract. Assumes nothing.
use Rattle.lanes.proofs.SextetLaws.{spread-word}
use Rattle.lanes.proofs.sextets.spread.Goals as goal

pub returns : goal.returns
returns c = spread-word c.args.x
