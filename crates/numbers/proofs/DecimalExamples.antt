-- The decimals that document 01 marks, and other texts written and read, by computation. Assumes nothing.
use mathlib.Core.Path.{◌≡◌, refl}
use mathlib.Core.Bool.{true, false}
use mathlib.Core.List.{[]}
use mathlib.Core.Option.{none, some}
use lib.IntN.{pos, negsuc}
use Rattle.output.specs.Logic.{ascii}
use Rattle.text_rules.specs.Digits.{digits, pad, count, is_digit, run, behind_digits, number, whole}
use Rattle.text_rules.specs.Texts.{starts}
use Rattle.numbers.specs.Decimal.{int_text, pointed, scientific, above, below, form, sign, decimal_text}
use Rattle.numbers.specs.Numeral.{Numeral, numeral, unsigned, behind_whole, behind_point, behind_d, power_of, ranged_decimal, shifted, held, ranged_int}

-- 123456 e 0, 1234567 e 0, 116 e -8, 116 e -9, -0 e 0
pub marked :
    (decimal_text false 123456 (pos 0) ≡ ascii "123456.")
    × (decimal_text false 1234567 (pos 0) ≡ ascii "1.234567d6")
    × (decimal_text false 116 (negsuc 7) ≡ ascii "0.00000116")
    × (decimal_text false 116 (negsuc 8) ≡ ascii "1.16d-7")
    × (decimal_text true 0 (pos 0) ≡ ascii "-0.")
unfolding decimal_text sign form above below scientific pointed int_text digits pad count
marked = (refl, refl, refl, refl, refl)

others :
    (decimal_text false 1 (negsuc 6) ≡ ascii "1.d-7")
    × (decimal_text true 0 (negsuc 6) ≡ ascii "-0.d-7")
    × (decimal_text false 9 (negsuc 2147483647) ≡ ascii "9.d-2147483648")
    × (decimal_text false 1000000 (pos 0) ≡ ascii "1.000000d6")
    × (decimal_text false 1000000 (pos 1) ≡ ascii "1000000d1")
    × (decimal_text false 0 (pos 2147483647) ≡ ascii "0d2147483647")
    × (decimal_text false 12345 (negsuc 1) ≡ ascii "123.45")
    × (decimal_text false 1 (negsuc 5) ≡ ascii "0.000001")
    × (decimal_text false 18446744073709551615 (negsuc 2147483647) ≡ ascii "1.8446744073709551615d-2147483629")
    × (int_text (negsuc 9223372036854775807) ≡ ascii "-9223372036854775808")
unfolding decimal_text sign form above below scientific pointed int_text digits pad count
others = (refl, refl, refl, refl, refl, refl, refl, refl, refl, refl)

reads :
    (numeral (ascii "1.0d2147483648") ≡ some (Numeral.decimal false 10 (pos 2147483647), []))
    × (numeral (ascii "0.d2147483648") ≡ none)
    × (numeral (ascii "0.d-2147483648") ≡ some (Numeral.decimal false 0 (negsuc 2147483647), []))
    × (numeral (ascii "0.0d-2147483648") ≡ none)
    × (numeral (ascii "00.") ≡ none)
    × (numeral (ascii "01d1") ≡ none)
    × (numeral (ascii "-0.") ≡ some (Numeral.decimal true 0 (pos 0), []))
    × (numeral (ascii "-0") ≡ none)
    × (numeral (ascii "0") ≡ some (Numeral.int (pos 0), []))
    × (numeral (ascii "1d") ≡ none)
    × (numeral (ascii "1.d+") ≡ none)
    × (numeral (ascii "1d00000000001") ≡ none)
    × (numeral (ascii "1d+0000000001") ≡ some (Numeral.decimal false 1 (pos 1), []))
    × (numeral (ascii "18446744073709551615.") ≡ some (Numeral.decimal false 18446744073709551615 (pos 0), []))
    × (numeral (ascii "18446744073709551616.") ≡ none)
    × (numeral (ascii "9223372036854775808") ≡ none)
    × (numeral (ascii "-9223372036854775808") ≡ some (Numeral.int (negsuc 9223372036854775807), []))
    × (numeral (ascii "-9223372036854775809") ≡ none)
    × (numeral (ascii ".5") ≡ none)
    × (numeral (ascii "1.5") ≡ some (Numeral.decimal false 15 (negsuc 0), []))
    × (numeral (ascii "0.0000000000000000000000001") ≡ some (Numeral.decimal false 1 (negsuc 24), []))
unfolding numeral unsigned behind_whole behind_point behind_d power_of ranged_decimal shifted held ranged_int run behind_digits starts whole is_digit number
reads = (refl, refl, refl, refl, refl, refl, refl, refl, refl, refl, refl, refl, refl, refl, refl, refl, refl, refl, refl, refl, refl)
