-- Texts of whole numbers, and the spellings that are refused (02, A8), by computation. Assumes nothing.
use mathlib.Core.Path.{◌≡◌, refl}
use mathlib.Core.List.{[]}
use mathlib.Core.Option.{none, some}
use Rattle.output.specs.Logic.{ascii}
use Rattle.text_rules.specs.Digits.{digits, pad, count, is_digit, run, behind_digits, number, whole as unpadded}
use Rattle.text_rules.specs.Texts.{starts}
use Rattle.floats.specs.Whole.{significant, point, powered, whole_text, ranged, scaled, behind_e, behind_all, behind_first, whole_number}

pub written :
    (whole_text 0 ≡ ascii "0e0")
    × (whole_text 1 ≡ ascii "1e0")
    × (whole_text 10 ≡ ascii "1e1")
    × (whole_text 15 ≡ ascii "1.5e1")
    × (whole_text 100 ≡ ascii "1e2")
    × (whole_text 1050 ≡ ascii "1.05e3")
    × (whole_text 10000000000 ≡ ascii "1e10")
    × (whole_text 9007199254740991 ≡ ascii "9.007199254740991e15")
    × (whole_text 9007199254740992 ≡ ascii "9.007199254740992e15")
unfolding whole_text powered point significant digits pad count
written = (refl, refl, refl, refl, refl, refl, refl, refl, refl)

pub read :
    (whole_number (ascii "0e0") ≡ some (0, []))
    × (whole_number (ascii "1e0") ≡ some (1, []))
    × (whole_number (ascii "1.5e1,") ≡ some (15, ascii ","))
    × (whole_number (ascii "1e2 ") ≡ some (100, ascii " "))
    × (whole_number (ascii "1e10") ≡ some (10000000000, []))
    × (whole_number (ascii "9.007199254740992e15") ≡ some (9007199254740992, []))
unfolding whole_number behind_first behind_all behind_e scaled ranged run behind_digits starts unpadded is_digit number
read = (refl, refl, refl, refl, refl, refl)

pub refused :
    (whole_number (ascii "1.5e0") ≡ none)
    × (whole_number (ascii "15e0") ≡ none)
    × (whole_number (ascii "10e1") ≡ none)
    × (whole_number (ascii "1.0e1") ≡ none)
    × (whole_number (ascii "1e+2") ≡ none)
    × (whole_number (ascii "1e02") ≡ none)
    × (whole_number (ascii "1E2") ≡ none)
    × (whole_number (ascii "0e1") ≡ none)
    × (whole_number (ascii "9.007199254740993e15") ≡ none)
    × (whole_number (ascii "1e16") ≡ none)
    × (whole_number (ascii "0e00") ≡ none)
    × (whole_number (ascii "0.0e0") ≡ none)
    × (whole_number (ascii "0.5e1") ≡ none)
    × (whole_number (ascii "1.e1") ≡ none)
    × (whole_number (ascii "1.50e2") ≡ none)
    × (whole_number (ascii "01e0") ≡ none)
    × (whole_number (ascii "1e-1") ≡ none)
    × (whole_number (ascii "1e") ≡ none)
    × (whole_number (ascii "15") ≡ none)
    × (whole_number (ascii "e0") ≡ none)
    × (whole_number (ascii "-1e0") ≡ none)
unfolding whole_number behind_first behind_all behind_e scaled ranged run behind_digits starts unpadded is_digit number
refused = (refl, refl, refl, refl, refl, refl, refl, refl, refl, refl, refl, refl, refl, refl, refl, refl, refl, refl, refl, refl, refl)
