-- The marked examples of offsets, and others of text and reading. Assumes nothing.
use mathlib.Core.Path.{◌≡◌, refl}
use mathlib.Core.Bool.{true, false}
use mathlib.Core.List.{[]}
use mathlib.Core.Option.{none, some}
use lib.IntN.{ℤ, pos, negsuc}
use Rattle.output.specs.Logic.{ascii}
use Rattle.text_rules.specs.Digits.{pad, is_digit, run, behind_digits, number}
use Rattle.text_rules.specs.Texts.{starts}
use Rattle.numbers.specs.declared.timestamp.Timestamp.{Timestamp}
use Rattle.numbers.specs.Timestamp.{unknown, is_leap, days_in, field_well, date_well, time_well, offset_well, fraction_well, well_formed, year_and_month, date, hour_and_minute, date_hour_and_minute, fractional_seconds, offset_text, timestamp_text}
use Rattle.numbers.specs.TimestampRead.{joined, starts_digit, clock, dated, timed, zoned, checked, minutes, offset_of, fraction_of, second_of, time_of, day_of, behind_month, behind_year, timestamp}

-- to the minute, with an offset
abbrev minute : ℤ → Timestamp
minute o = zoned (timed 3 (dated 2 2020 8 1) 12 34 0 0 0) o

-- the marked examples: offsets unknown, -5
pub marked-offsets :
    (offset_text (pos unknown) ≡ ascii "-00:00")
    × (offset_text (negsuc 4) ≡ ascii "-00:05")
    × (timestamp_text (minute (pos unknown)) ≡ ascii "2020-08-01T12:34-00:00")
    × (timestamp_text (minute (negsuc 4)) ≡ ascii "2020-08-01T12:34-00:05")
unfolding timestamp_text date_hour_and_minute date year_and_month hour_and_minute offset_text pad
marked-offsets = (refl, refl, refl, refl)

-- the five precisions, a fraction that starts with zeros, and the offset 0
texts :
    (timestamp_text (dated 0 7 0 0) ≡ ascii "0007T")
    × (timestamp_text (dated 1 2020 8 0) ≡ ascii "2020-08T")
    × (timestamp_text (dated 2 2020 8 1) ≡ ascii "2020-08-01T")
    × (timestamp_text (minute (pos 0)) ≡ ascii "2020-08-01T12:34+00:00")
    × (timestamp_text (zoned (timed 4 (dated 2 2020 8 1) 12 34 56 0 0) (pos 1439)) ≡ ascii "2020-08-01T12:34:56+23:59")
    × (timestamp_text (zoned (timed 4 (dated 2 2020 8 1) 12 34 56 3 7) (negsuc 1438)) ≡ ascii "2020-08-01T12:34:56.007-23:59")
unfolding timestamp_text date_hour_and_minute date year_and_month hour_and_minute fractional_seconds offset_text pad
texts = (refl, refl, refl, refl, refl, refl)

-- real dates alone
calendar :
    (well_formed (dated 2 1900 2 29) ≡ false)
    × (well_formed (dated 2 2000 2 29) ≡ true)
    × (well_formed (dated 2 2023 2 29) ≡ false)
    × (well_formed (dated 2 2024 2 29) ≡ true)
    × (well_formed (dated 2 2024 4 31) ≡ false)
    × (well_formed (dated 1 2024 13 0) ≡ false)
    × (well_formed (dated 0 0 0 0) ≡ false)
unfolding well_formed date_well time_well offset_well fraction_well field_well days_in is_leap
calendar = (refl, refl, refl, refl, refl, refl, refl)

-- `Z` and `-00:00`; without `T`, a point without digits, 10 digits, `+24:00`, `+00:60`, `z`, `t` and no real date are refused
reads :
    (timestamp (ascii "2020-08-01T12:34Z") ≡ some (minute (pos 0), []))
    × (timestamp (ascii "2020-08-01T12:34-00:00") ≡ some (minute (pos unknown), []))
    × (timestamp (ascii "2020-08-01T12:34-00:05") ≡ some (minute (negsuc 4), []))
    × (timestamp (ascii "2020-08-01T12:34:56.007Z") ≡ some (zoned (timed 4 (dated 2 2020 8 1) 12 34 56 3 7) (pos 0), []))
    × (timestamp (ascii "2020T,") ≡ some (dated 0 2020 0 0, ascii ","))
    × (timestamp (ascii "2020-08-01") ≡ none)
    × (timestamp (ascii "2020-08-01T12:34") ≡ none)
    × (timestamp (ascii "2020-08-01T12:34:56.Z") ≡ none)
    × (timestamp (ascii "2020-08-01T12:34:56.1234567890Z") ≡ none)
    × (timestamp (ascii "2020-08-01T12:34+24:00") ≡ none)
    × (timestamp (ascii "2020-08-01T12:34+00:60") ≡ none)
    × (timestamp (ascii "2020-08-01T12:34z") ≡ none)
    × (timestamp (ascii "2020-08-01t12:34Z") ≡ none)
    × (timestamp (ascii "1900-02-29T") ≡ none)
unfolding timestamp behind_year behind_month day_of time_of second_of fraction_of offset_of minutes clock checked joined starts_digit starts run behind_digits number is_digit well_formed date_well time_well offset_well fraction_well field_well days_in is_leap
reads = (refl, refl, refl, refl, refl, refl, refl, refl, refl, refl, refl, refl, refl, refl)
