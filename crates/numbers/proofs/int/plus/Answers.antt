-- `numbers::int::plus` meets its contract. Assumes nothing.
use mir.Syntax.{w64}
use mir.ValLaws.{to_z_pos}
use Rattle.numbers.proofs.int.plus.Goals as goal

pub returns : goal.returns
returns c = to_z_pos w64 c.args.n c.requires
