-- `measure::decimal::scientific_length` meets its contract. Assumes nothing.
use native.Mathlib.Omega.{arith}
use mir.Syntax.{w64}
use mir.ValLaws.{to_z-of_z}
use Rattle.measure.proofs.NumberLengths.{length-scientific}
use Rattle.measure.proofs.decimal.scientific_length.Goals as goal

pub returns : goal.returns
returns c =
    let x = c.args in
    let i = rw (to_z-of_z w64 x.exponent c.ranges.exponent) at c.integer_length.ensures in
    (omega (arith, i.0, length-scientific x.n x.w x.exponent c.requires.0), omega (arith, i.1, c.requires.1))
