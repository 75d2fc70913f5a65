-- `nodes::put_float` meets its contract. Assumes nothing.
use Rattle.tape.specs.Tree.{encode_scalar}
use Rattle.reader.proofs.nodes.put_float.Goals as goal

pub returns : goal.returns
unfolding encode_scalar
returns c = rw c.bits_of_float.ensures at c.put_wide.ensures
