-- `numbers::int::put_sign` meets its contract. Assumes nothing.
use Rattle.numbers.specs.Decimal.{sign}
use Rattle.numbers.proofs.int.put_sign.Goals as goal

pub returns-then-negative-clause-minus : goal.returns-then-negative-clause-minus
unfolding sign
returns-then-negative-clause-minus c h = c.put.ensures
