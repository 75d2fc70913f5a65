-- `tape::float_of` meets its contract: each answer by the tests that led to it. The NaN is 0.0 / 0.0, since no float is made of a NaN's
-- pattern. Assumes nothing.
use native.Mathlib.Omega.{arith}
use lib.Ieee.{div, of_bits}
use borrow.Author.Tests.{eq-eqb, ne_eqb, lt-ltb, le-ltb}
use Rattle.tape.specs.Tape.{float_as}
use Rattle.floats.proofs.FloatsBits.{no_nan}
use Rattle.tape.proofs.float_of.Goals as goal

pub returns-then-b-eq9221120237041090560 : goal.returns-then-b-eq9221120237041090560
unfolding float_as div of_bits
returns-then-b-eq9221120237041090560 c = λ l. simp (eq-eqb _ _ c.if-b-eq9221120237041090560.true)

pub returns-then-b-gt9218868437227405312 : goal.returns-then-b-gt9218868437227405312
unfolding float_as
returns-then-b-gt9218868437227405312 c = λ l. simp (ne_eqb _ _ c.if-b-eq9221120237041090560.false, lt-ltb _ _ c.if-b-gt9218868437227405312.true)

pub float_from_bits-result : goal.float_from_bits-result
float_from_bits-result c = no_nan c.args.b (omega arith)

pub returns : goal.returns
unfolding float_as
returns c = λ l. simp (ne_eqb _ _ c.if-b-eq9221120237041090560.false, le-ltb _ _ c.if-b-gt9218868437227405312.false)
