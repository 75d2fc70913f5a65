-- "The ranges of values … bind here too": what holds of that which a token reads. Assumes nothing: these are definitions.
use Rattle.std.specs.Prelude.{ℕ, ◌^◌, ◌<◌, ◌≡◌, List, true, length}
use Rattle.std.proofs.Math.Option.{Option, none, some}
use Rattle.text_rules.specs.Utf8.{valid}
use Rattle.text_rules.specs.Text.{Sym}
use Rattle.numbers.specs.Numeral.{Numeral}
use Rattle.tape.specs.Tree.{Scalar, encode_sym}
use Rattle.tape.specs.Fine.{Bytes, FineSym, FineScalar}

-- a token that was read, if one was, has the property P, whatever follows it
pub data Got {A : Type 0} (P : A → Type 0) : Option (A × List ℕ) → Type 0 where
  got-none : Got P none
  got : {v : A × List ℕ} → P v.0 → Got P (some v)

-- bytes that are UTF-8
pub record IsText (x : List ℕ) : Type 0 where
  pub bytes : Bytes x
  pub utf8 : valid x ≡ true

-- a symbol is well formed, if its length fits u32: "lengths … do not" bind here
abbrev pub SymInRange : Sym → Type 0
SymInRange s = length (encode_sym s) < 2 ^ 32 → FineSym s

-- ints and decimals are those of the tape
abbrev pub NumeralInRange : Numeral → Type 0
NumeralInRange (Numeral.int z) = FineScalar (Scalar.int z)
NumeralInRange (Numeral.decimal neg m e) = FineScalar (Scalar.decimal neg m e)
