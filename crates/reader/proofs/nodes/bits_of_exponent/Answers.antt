-- `nodes::bits_of_exponent` meets its contract. Assumes nothing.
use Rattle.reader.proofs.Signs.{through-32}
use Rattle.reader.proofs.nodes.bits_of_exponent.Goals as goal

pub returns : goal.returns
returns c = through-32 _ _ c.args.e c.ranges.e c.widen.ensures c.bits_of.ensures
