-- What the contracts of the readers of numbers say. Assumes nothing: these are definitions.
use Rattle.std.specs.Prelude.{ℕ, Some, None}
use Rattle.std.specs.Prelude as std
use Rattle.std.proofs.Math.Option.{Option, none, some}
use Rattle.numbers.specs.Numeral.{Numeral}
use Rattle.numbers.specs.declared.numeral.Numeral.{Numeral as NumeralC}
use Rattle.numbers.specs.declared.numeral.Numeral.TheVariants.{Int, Decimal}

-- an int or a decimal of the code
abbrev pub meant : NumeralC → Numeral
meant (Int z) = Numeral.int z
meant (Decimal neg m e) = Numeral.decimal neg m e

-- the answer of the reader: a numeral and the place behind it, or nothing
abbrev pub numeral_read : std.Option (NumeralC × ℕ) → Option (Numeral × ℕ)
numeral_read (Some v) = some (meant v.0, v.1)
numeral_read None = none
