-- `measure::decimal::sign_length` meets its contract. Assumes nothing.
use Rattle.numbers.specs.Decimal.{sign}
use native.Mathlib.Omega.{arith}
use mathlib.Core.Path.{refl}
use Rattle.measure.proofs.decimal.sign_length.Goals as goal

pub returns-then-negative : goal.returns-then-negative
unfolding sign
returns-then-negative c = rw c.if-negative.true (refl, omega arith)

pub returns-else-negative : goal.returns-else-negative
unfolding sign
returns-else-negative c = rw c.if-negative.false (refl, omega arith)
