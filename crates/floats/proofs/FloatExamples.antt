-- Texts of floats, and the spellings that are refused (02, A8), by computation. Assumes nothing.
use mathlib.Core.Path.{◌≡◌, refl}
use mathlib.Core.Bool.{true, false}
use mathlib.Core.List.{[]}
use mathlib.Core.Option.{none}
use lib.IntN.{pos, negsuc}
use lib.Ieee.{nan, inf, fin}
use Rattle.output.specs.Logic.{ascii}
use Rattle.text_rules.specs.Digits.{digits, pad, count, is_digit, run, behind_digits, number, whole as unpadded}
use Rattle.text_rules.specs.Texts.{starts, strip, same}
use Rattle.text_rules.specs.Words.{is_start, is_part, word, behind_word}
use Rattle.numbers.specs.Decimal.{sign}
use Rattle.floats.specs.Whole.{significant, point, powered, whole_text, ranged, scaled, behind_e, behind_all, behind_first, whole_number}
use Rattle.floats.specs.Value.{whole_of, up_to, magnitude}
use Rattle.floats.specs.Float.{signed_text, float_text, nan_word, spelled, signed_whole, float}

-- a half and the float behind the most have no text
pub written :
    (float_text nan ≡ ascii "nan")
    × (float_text (inf true) ≡ ascii "-inf")
    × (float_text (inf false) ≡ ascii "+inf")
    × (float_text (fin false 15 (pos 0)) ≡ ascii "1.5e1")
    × (float_text (fin false 25 (pos 2)) ≡ ascii "1e2")
    × (float_text (fin true 0 (pos 0)) ≡ ascii "-0e0")
    × (float_text (fin false 0 (pos 0)) ≡ ascii "0e0")
    × (float_text (fin true 15 (pos 0)) ≡ ascii "-1.5e1")
    × (float_text (fin false 1 (pos 53)) ≡ ascii "9.007199254740992e15")
    × (float_text (fin false 1 (negsuc 0)) ≡ [])
    × (float_text (fin false 4503599627370497 (pos 1)) ≡ [])
unfolding float_text signed_text sign magnitude whole_of up_to whole_text powered point significant digits pad count
written = (refl, refl, refl, refl, refl, refl, refl, refl, refl, refl, refl)

pub refused :
    (float (ascii "1.5e0") ≡ none)
    × (float (ascii "15e0") ≡ none)
    × (float (ascii "10e1") ≡ none)
    × (float (ascii "1.0e1") ≡ none)
    × (float (ascii "1e+2") ≡ none)
    × (float (ascii "1e02") ≡ none)
    × (float (ascii "1E2") ≡ none)
    × (float (ascii "0e1") ≡ none)
    × (float (ascii "9.007199254740993e15") ≡ none)
    × (float (ascii "1e16") ≡ none)
    × (float (ascii "-1.5e0") ≡ none)
    × (float (ascii "+1e2") ≡ none)
unfolding float nan_word word behind_word same is_part is_start spelled strip signed_whole whole_number behind_first behind_all behind_e scaled ranged run behind_digits starts unpadded is_digit number
refused = (refl, refl, refl, refl, refl, refl, refl, refl, refl, refl, refl, refl)
