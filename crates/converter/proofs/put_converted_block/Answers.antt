-- `converter::put_converted_block` meets its contract. Assumes nothing.
use Rattle.converter.proofs.put_converted_block.Goals as goal

pub returns-then-not-any_replaced : goal.returns-then-not-any_replaced
returns-then-not-any_replaced c = rw (c.any_replaced.ensures c.if-not-any_replaced.true) c.put_bytes.ensures
