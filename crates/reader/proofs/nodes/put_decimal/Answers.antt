-- `nodes::put_decimal` meets its contract. Assumes nothing.
use mir.Syntax.{w32}
use mir.ValLaws.{to_z-of_z}
use Rattle.output.proofs.Laws.{wrote_then}
use Rattle.tape.specs.Tree.{encode_scalar}
use Rattle.reader.proofs.nodes.put_decimal.Goals as goal

pub returns : goal.returns
unfolding encode_scalar
returns c =
    let z = to_z-of_z w32 c.args.e c.ranges.e in
    wrote_then c.put-p.ensures (wrote_then (rw c.bit_of.ensures at c.put_wide-q.ensures) (rw (c.bits_of_exponent.ensures, z) at c.put_le.ensures))
