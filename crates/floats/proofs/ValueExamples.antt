-- Bits of whole numbers, and bits of floats that are none (02, A8), by computation. Assumes nothing.
use mathlib.Core.Path.{◌≡◌, refl}
use mathlib.Core.Bool.{true, false}
use mathlib.Core.Option.{none, some}
use lib.Count.{count_trailing_zeros}
use lib.Ieee.{binary64, span, climb, size, odd, of_fields, of_bits, to_bits}
use Rattle.floats.specs.Whole.{most_whole}
use Rattle.floats.specs.Value.{whole_of, up_to, magnitude, whole_float}

pub made :
    (to_bits binary64 (whole_float false 0) ≡ 0)
    × (to_bits binary64 (whole_float true 0) ≡ 0x8000_0000_0000_0000)
    × (to_bits binary64 (whole_float false 1) ≡ 0x3FF0_0000_0000_0000)
    × (to_bits binary64 (whole_float true 3) ≡ 0xC008_0000_0000_0000)
    × (to_bits binary64 (whole_float false 9007199254740991) ≡ 0x433F_FFFF_FFFF_FFFF)
    × (to_bits binary64 (whole_float false most_whole) ≡ 0x4340_0000_0000_0000)
unfolding to_bits whole_float count_trailing_zeros size span climb
made = (refl, refl, refl, refl, refl, refl)

-- no number: a half, the float behind the most, infinity, a NaN, the smallest
pub taken :
    (magnitude (of_bits binary64 0x8000_0000_0000_0000) ≡ some 0)
    × (magnitude (of_bits binary64 0xC008_0000_0000_0000) ≡ some 3)
    × (magnitude (of_bits binary64 0x4340_0000_0000_0000) ≡ some most_whole)
    × (magnitude (of_bits binary64 0x3FE0_0000_0000_0000) ≡ none)
    × (magnitude (of_bits binary64 0x4340_0000_0000_0001) ≡ none)
    × (magnitude (of_bits binary64 0x7FF0_0000_0000_0000) ≡ none)
    × (magnitude (of_bits binary64 0x7FF8_0000_0000_0000) ≡ none)
    × (magnitude (of_bits binary64 1) ≡ none)
unfolding magnitude up_to whole_of of_bits of_fields odd count_trailing_zeros
taken = (refl, refl, refl, refl, refl, refl, refl, refl)
