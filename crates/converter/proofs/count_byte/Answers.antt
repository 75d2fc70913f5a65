-- `converter::count_byte` meets its contract. Assumes nothing.
use mathlib.Core.Path.{sym, ◌∙◌}
use native.Mathlib.Omega.{arith}
use Rattle.converter.proofs.count_byte.Goals as goal

pub returns-then-is_replaced : goal.returns-then-is_replaced
returns-then-is_replaced c = (rw (sym c.is_replaced.ensures ∙ c.if-is_replaced.true), omega arith)

pub returns-else-is_replaced : goal.returns-else-is_replaced
returns-else-is_replaced c = (rw (sym c.is_replaced.ensures ∙ c.if-is_replaced.false), omega arith)
