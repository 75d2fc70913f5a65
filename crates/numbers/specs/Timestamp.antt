-- Timestamps: which are well formed, and their text (`format` of types/timestamp.rs). Assumes nothing: these are definitions.
use Rattle.std.specs.Prelude.{ℕ, suc, ◌/◌, ◌%◌, ◌^◌, ℤ, pos, negsuc, Bool, true, not, ◌&&◌, ◌||◌, List, [], ◌∷◌, ◌++◌, eqb, leb, ltb}
use Rattle.output.specs.Logic.{if, byte, ascii}
use Rattle.text_rules.specs.Digits.{pad}
use Rattle.numbers.specs.declared.timestamp.Timestamp.{Timestamp}

-- ---- which timestamps there are

-- the Gregorian calendar
unfoldable pub is_leap : ℕ → Bool
is_leap year = eqb (year % 400) 0 || eqb (year % 4) 0 && not (eqb (year % 100) 0)

unfoldable pub days_in : ℕ → ℕ → ℕ
days_in year month =
    if (eqb month 2) (if (is_leap year) 29 28)
    (if (eqb month 4 || eqb month 6 || eqb month 9 || eqb month 11) 30 31)

-- A field that the precision reaches lies from lo to hi. Fields finer than the precision are 0.
unfoldable pub field_well : Bool → ℕ → ℕ → ℕ → Bool
field_well reached lo hi n = if reached (leb lo n && leb n hi) (eqb n 0)

-- Precision 0 year, 1 month, 2 day, 3 minute, 4 second; year 1..9999. Calendar dates are real.
unfoldable pub date_well : ℕ → ℕ → ℕ → ℕ → Bool
date_well precision year month day =
    leb precision 4 && field_well true 1 9999 year && field_well (leb 1 precision) 1 12 month && field_well (leb 2 precision) 1 (days_in year month) day

-- Hours stop at 23, minutes and seconds at 59.
unfoldable pub time_well : ℕ → ℕ → ℕ → ℕ → Bool
time_well precision hour minute second =
    field_well (leb 3 precision) 0 23 hour && field_well (leb 3 precision) 0 59 minute && field_well (leb 4 precision) 0 59 second

-- digit count 0..9; fraction below ten to that count
unfoldable pub fraction_well : ℕ → ℕ → ℕ → Bool
fraction_well precision digits fraction = field_well (leb 4 precision) 0 9 digits && ltb fraction (10 ^ digits)

-- the offset that stands for unknown
abbrev pub unknown : ℕ
unknown = 32767

-- offset in minutes, -1439..1439, or 32767 for unknown; below precision 3 the offset is 32767
unfoldable pub offset_well : ℕ → ℤ → Bool
offset_well precision (pos m) = eqb m unknown || leb 3 precision && leb m 1439
offset_well precision (negsuc m) = leb 3 precision && leb (suc m) 1439

unfoldable pub well_formed : Timestamp → Bool
well_formed x =
    date_well x.precision x.year x.month x.day
    && time_well x.precision x.hour x.minute x.second
    && offset_well x.precision x.offset
    && fraction_well x.precision x.digits x.fraction

-- ---- their text, for any numbers in the fields: outside `well_formed` it is no text of 01's

-- `YYYY-MM`
unfoldable pub year_and_month : ℕ → ℕ → List ℕ
year_and_month year month = pad 4 year ++ (byte "-" ∷ pad 2 month)

-- `YYYY-MM-DD`
unfoldable pub date : ℕ → ℕ → ℕ → List ℕ
date year month day = year_and_month year month ++ (byte "-" ∷ pad 2 day)

-- `hh:mm`
unfoldable pub hour_and_minute : ℕ → ℕ → List ℕ
hour_and_minute hour minute = pad 2 hour ++ (byte ":" ∷ pad 2 minute)

-- `YYYY-MM-DDThh:mm`
unfoldable pub date_hour_and_minute : ℕ → ℕ → ℕ → ℕ → ℕ → List ℕ
date_hour_and_minute year month day hour minute = date year month day ++ (byte "T" ∷ hour_and_minute hour minute)

-- A count of 0 prints no point; else a point and that many digits.
unfoldable pub fractional_seconds : ℕ → ℕ → List ℕ
fractional_seconds digits fraction = if (eqb digits 0) [] (byte "." ∷ pad digits fraction)

-- Offset: sign, `hh:mm`; unknown is `-00:00`, 0 is `+00:00`.
unfoldable pub offset_text : ℤ → List ℕ
offset_text (pos m) = if (eqb m unknown) (ascii "-00:00") (byte "+" ∷ hour_and_minute (m / 60) (m % 60))
offset_text (negsuc m) = byte "-" ∷ hour_and_minute (suc m / 60) (suc m % 60)

-- `YYYYT`, `YYYY-MMT`, `YYYY-MM-DDT`, `YYYY-MM-DDThh:mm` with offset, or with `:ss`, fraction and offset
unfoldable pub timestamp_text : Timestamp → List ℕ
timestamp_text x =
    if (eqb x.precision 0) (pad 4 x.year ++ ascii "T")
    (if (eqb x.precision 1) (year_and_month x.year x.month ++ ascii "T")
    (if (eqb x.precision 2) (date x.year x.month x.day ++ ascii "T")
    (if (eqb x.precision 3) (date_hour_and_minute x.year x.month x.day x.hour x.minute ++ offset_text x.offset)
    (date_hour_and_minute x.year x.month x.day x.hour x.minute
    ++ (byte ":" ∷ pad 2 x.second)
    ++ fractional_seconds x.digits x.fraction
    ++ offset_text x.offset))))
