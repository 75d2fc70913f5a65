-- `escapes::first_body_length` meets its contract. Assumes nothing.
use mathlib.Core.Path.{ap}
use native.Mathlib.Omega.{arith}
use lib.ListN.{length, length-take}
use Rattle.measure.proofs.EscapeLengths.{escapes_most}
use Rattle.measure.proofs.escapes.first_body_length.Goals as goal

pub returns-then-is_raw : goal.returns-then-is_raw
returns-then-is_raw c = omega (arith, ap length (c.is_raw.ensures c.if-is_raw.true), length-take c.args.n c.args.s.now, c.requires)

pub overflow_add-result : goal.overflow_add-result
overflow_add-result c =
    record { fits = omega (arith, escapes_most c.args.s.now c.args.n c.escapes_of.result c.escapes_of.ensures, c.requires) }
