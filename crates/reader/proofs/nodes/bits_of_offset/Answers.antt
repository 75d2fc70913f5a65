-- `nodes::bits_of_offset` meets its contract. Assumes nothing.
use Rattle.reader.proofs.Signs.{through-16}
use Rattle.reader.proofs.nodes.bits_of_offset.Goals as goal

pub returns : goal.returns
returns c = through-16 _ _ c.args.e c.ranges.e c.widen_offset.ensures c.bits_of.ensures
