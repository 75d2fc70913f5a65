-- `timestamp::east_of` meets its contract. Assumes nothing.
use native.Mathlib.Omega.{arith}
use mir.Syntax.{w16}
use mir.ValLaws.{to_z_pos}
use Rattle.numbers.proofs.timestamp.east_of.Goals as goal

pub returns : goal.returns
returns c = to_z_pos w16 c.args.m (omega arith)
