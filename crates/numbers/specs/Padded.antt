-- The text of a timestamp as the Rust has it (types/timestamp.rs): each number by `write_zero_padded`, in at least so many digits, where
-- `timestamp_text` has exactly so many. Of every well-formed timestamp the two are the same: theorem `padded-same`, proofs/Padded.antt.
-- Assumes nothing: these are definitions.
use Rattle.std.specs.Prelude.{ℕ, suc, ◌/◌, ◌%◌, ℤ, pos, negsuc, List, [], ◌∷◌, ◌++◌, eqb}
use Rattle.output.specs.Logic.{if, byte, ascii}
use Rattle.text_rules.specs.Digits.{zero_padded}
use Rattle.numbers.specs.Timestamp.{unknown}
use Rattle.numbers.specs.declared.timestamp.Timestamp.{Timestamp}

-- `format_year_and_month`
unfoldable pub padded_month : ℕ → ℕ → List ℕ
padded_month year month = zero_padded 4 year ++ (byte "-" ∷ zero_padded 2 month)

-- `format_date`
unfoldable pub padded_date : ℕ → ℕ → ℕ → List ℕ
padded_date year month day = padded_month year month ++ (byte "-" ∷ zero_padded 2 day)

-- hours and minutes, of a day and of an offset
unfoldable pub padded_clock : ℕ → ℕ → List ℕ
padded_clock hour minute = zero_padded 2 hour ++ (byte ":" ∷ zero_padded 2 minute)

-- `format_fractional_seconds`
unfoldable pub padded_fraction : ℕ → ℕ → List ℕ
padded_fraction digits fraction = if (eqb digits 0) [] (byte "." ∷ zero_padded digits fraction)

-- `format_offset`
unfoldable pub padded_offset : ℤ → List ℕ
padded_offset (pos m) = if (eqb m unknown) (byte "-" ∷ padded_clock 0 0) (byte "+" ∷ padded_clock (m / 60) (m % 60))
padded_offset (negsuc m) = byte "-" ∷ padded_clock (suc m / 60) (suc m % 60)

-- `format`
unfoldable pub padded_timestamp : Timestamp → List ℕ
padded_timestamp x =
    if (eqb x.precision 0) (zero_padded 4 x.year ++ ascii "T")
    (if (eqb x.precision 1) (padded_month x.year x.month ++ ascii "T")
    (if (eqb x.precision 2) (padded_date x.year x.month x.day ++ ascii "T")
    (if (eqb x.precision 3) ((padded_date x.year x.month x.day ++ (byte "T" ∷ padded_clock x.hour x.minute)) ++ padded_offset x.offset)
    ((padded_date x.year x.month x.day ++ (byte "T" ∷ padded_clock x.hour x.minute))
    ++ (byte ":" ∷ zero_padded 2 x.second)
    ++ padded_fraction x.digits x.fraction
    ++ padded_offset x.offset))))
