-- `nodes::put_int` meets its contract. Assumes nothing.
use mir.Syntax.{w64}
use mir.ValLaws.{to_z-of_z}
use Rattle.tape.specs.Tree.{encode_scalar}
use Rattle.reader.proofs.nodes.put_int.Goals as goal

pub returns : goal.returns
unfolding encode_scalar
returns c = rw (c.bits_of.ensures, to_z-of_z w64 c.args.n c.ranges.n) at c.put_wide.ensures
