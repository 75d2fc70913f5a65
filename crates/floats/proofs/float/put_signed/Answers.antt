-- `floats::float::put_signed` meets its contract. Assumes nothing.
use Rattle.numbers.proofs.DecimalLaws.{signed}
use Rattle.floats.proofs.float.put_signed.Goals as goal

pub returns : goal.returns
returns c = signed c.args.neg c.put_sign-p.ensures.minus c.put_sign-p.ensures.nothing c.format_whole.ensures
