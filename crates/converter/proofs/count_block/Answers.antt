-- `converter::count_block` meets its contract. Assumes nothing.
use mathlib.Core.Path.{ap}
use native.Mathlib.Omega.{arith}
use lib.ListN.{length}
use Rattle.converter.proofs.count_block.Goals as goal

pub returns-else-any_replaced : goal.returns-else-any_replaced
returns-else-any_replaced c = omega (arith, ap length (c.any_replaced.ensures c.if-any_replaced.false))
