-- The whole number that a float is, and the float that a whole number is (02, A8). Assumes nothing: these are definitions.
use Rattle.std.specs.Prelude.{ℕ, zero, suc, ◌*◌, ◌/◌, ◌^◌, Bool, true, false, pos, negsuc, leb, Float}
use Rattle.std.proofs.Math.Option.{Option, none, some}
use Rattle.std.specs.Int.Count.{count_trailing_zeros}
use Rattle.std.specs.Float.{nan, inf, fin}
use Rattle.output.specs.Logic.{if}
use Rattle.floats.specs.Whole.{most_whole}

-- The magnitude, if it is a whole number. `fin s m e` is m times two to the e; a float of 64 bits is written in one way (`fits`), and so m is odd where e is negative: that is
-- no whole number.
unfoldable pub whole_of : Float → Option ℕ
whole_of nan = none
whole_of (inf s) = none
whole_of (fin s m (pos k)) = some (m * 2 ^ k)
whole_of (fin s m (negsuc k)) = none

-- not over the most
unfoldable pub up_to : Option ℕ → Option ℕ
up_to none = none
up_to (some n) = if (leb n most_whole) (some n) none

-- the magnitude, if it is a whole number up to the most
unfoldable pub magnitude : Float → Option ℕ
magnitude x = up_to (whole_of x)

abbrev is_some : Option ℕ → Bool
is_some none = false
is_some (some n) = true

-- whether it is a whole number up to the most
unfoldable pub is_whole : Float → Bool
is_whole x = is_some (magnitude x)

-- the sign of a zero counts too
unfoldable pub is_negative : Float → Bool
is_negative nan = false
is_negative (inf s) = s
is_negative (fin s m e) = s

-- The float of a sign and a whole number up to the most, which has at most 54 binary digits: the twos are taken out.
unfoldable pub whole_float : Bool → ℕ → Float
whole_float s zero = fin s zero (pos zero)
whole_float s (suc n) = fin s (suc n / 2 ^ count_trailing_zeros 54 (suc n)) (pos (count_trailing_zeros 54 (suc n)))
