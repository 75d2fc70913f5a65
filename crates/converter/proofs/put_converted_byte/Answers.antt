-- `converter::put_converted_byte` meets its contract. Assumes nothing.
use mathlib.Core.Path.{sym, ◌∙◌}
use Rattle.converter.proofs.put_converted_byte.Goals as goal

pub returns-then-is_replaced : goal.returns-then-is_replaced
returns-then-is_replaced c = rw (sym c.is_replaced.ensures ∙ c.if-is_replaced.true) c.put_hex.ensures

pub returns : goal.returns
returns c = rw (sym c.is_replaced.ensures ∙ c.if-is_replaced.false) c.put.ensures
