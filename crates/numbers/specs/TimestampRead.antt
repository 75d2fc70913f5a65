-- Timestamps, read from the start of a text: "timestamps as printed, and `Z` as offset 0". Each rule gives what was read and the
-- text behind it. Assumes nothing: these are definitions.
use Rattle.std.specs.Prelude.{ℕ, zero, suc, ◌+◌, ◌-◌, ◌*◌, ℤ, pos, negsuc, Bool, false, ◌&&◌, List, [], ◌∷◌, length, drop, leb}
use Rattle.std.proofs.Math.Option.{Option, none, some}
use Rattle.output.specs.Logic.{if, then, byte}
use Rattle.text_rules.specs.Digits.{is_digit, run, behind_digits, number}
use Rattle.text_rules.specs.Texts.{starts}
use Rattle.numbers.specs.declared.timestamp.Timestamp.{Timestamp}
use Rattle.numbers.specs.Timestamp.{unknown, well_formed}

abbrev pub ReadTimestamp : Type 0
ReadTimestamp = Option (Timestamp × List ℕ)

-- exactly w digits more, behind those whose number is a: the number of all of them
unfoldable pub joined : ℕ → ℕ → List ℕ → Option (ℕ × List ℕ)
joined a zero t = some (a, t)
joined a (suc w) [] = none
joined a (suc w) (c ∷ t) = if (is_digit c) (joined (a * 10 + (c - byte "0")) w t) none

-- exactly w digits, and their number
abbrev pub fixed : ℕ → List ℕ → Option (ℕ × List ℕ)
fixed w t = joined 0 w t

-- the text starts with a digit
unfoldable pub starts_digit : List ℕ → Bool
starts_digit [] = false
starts_digit (c ∷ t) = is_digit c

-- `hh:mm`
unfoldable pub clock : List ℕ → Option ((ℕ × ℕ) × List ℕ)
clock t =
    then (fixed 2 t) (λ h.
    if (starts (byte ":") h.1) (then (fixed 2 (drop 1 h.1)) (λ m. some ((h.0, m.0), m.1))) none)

-- ---- what was read so far, as a timestamp

-- a date alone: its offset is unknown
abbrev pub dated : ℕ → ℕ → ℕ → ℕ → Timestamp
dated p year month day = record {
  precision = p;
  year = year;
  month = month;
  day = day;
  hour = 0;
  minute = 0;
  second = 0;
  offset = pos unknown;
  digits = 0;
  fraction = 0;
}

-- a date and a time
abbrev pub timed : ℕ → Timestamp → ℕ → ℕ → ℕ → ℕ → ℕ → Timestamp
timed p x hour minute second digits fraction = record {
  precision = p;
  year = x.year;
  month = x.month;
  day = x.day;
  hour = hour;
  minute = minute;
  second = second;
  offset = x.offset;
  digits = digits;
  fraction = fraction;
}

abbrev pub zoned : Timestamp → ℤ → Timestamp
zoned x o = record {
  precision = x.precision;
  year = x.year;
  month = x.month;
  day = x.day;
  hour = x.hour;
  minute = x.minute;
  second = x.second;
  offset = o;
  digits = x.digits;
  fraction = x.fraction;
}

-- ---- the rules, from the end of a timestamp to its start

-- the ranges of values bind here too
unfoldable pub checked : Timestamp → List ℕ → ReadTimestamp
checked x t = if (well_formed x) (some (x, t)) none

-- `hh:mm` of an offset, in minutes
unfoldable pub minutes : List ℕ → Option (ℕ × List ℕ)
minutes t = then (clock t) (λ c. if (leb c.0.0 23 && leb c.0.1 59) (some (c.0.0 * 60 + c.0.1, c.1)) none)

-- behind a minus: `-00:00` is unknown
abbrev pub west : ℕ → ℤ
west zero = pos unknown
west (suc m) = negsuc m

-- the offset: `Z` is 0; sign, `hh:mm`
unfoldable pub offset_of : Timestamp → List ℕ → ReadTimestamp
offset_of x t =
    if (starts (byte "Z") t) (checked (zoned x (pos 0)) (drop 1 t))
    (if (starts (byte "+") t) (then (minutes (drop 1 t)) (λ m. checked (zoned x (pos m.0)) m.1))
    (if (starts (byte "-") t) (then (minutes (drop 1 t)) (λ m. checked (zoned x (west m.0)) m.1)) none))

-- behind a point: 1 to 9 digits ds, and the offset
unfoldable pub fraction_of : Timestamp → ℕ → ℕ → ℕ → List ℕ → List ℕ → ReadTimestamp
fraction_of x h m s ds t = if (leb 1 (length ds) && leb (length ds) 9) (offset_of (timed 4 x h m s (length ds) (number 0 ds)) t) none

-- behind `hh:mm:`, the seconds, a point and digits or none, and the offset
unfoldable pub second_of : Timestamp → ℕ → ℕ → List ℕ → ReadTimestamp
second_of x h m t =
    then (fixed 2 t) (λ s.
    if (starts (byte ".") s.1) (fraction_of x h m s.0 (run (drop 1 s.1)) (behind_digits (drop 1 s.1)))
    (offset_of (timed 4 x h m s.0 0 0) s.1))

-- the time of a day: `hh:mm` or `hh:mm:ss` and so on
unfoldable pub time_of : Timestamp → List ℕ → ReadTimestamp
time_of x t =
    then (clock t) (λ c.
    if (starts (byte ":") c.1) (second_of x c.0.0 c.0.1 (drop 1 c.1))
    (offset_of (timed 3 x c.0.0 c.0.1 0 0 0) c.1))

-- behind `YYYY-MM-DDT`: a time, if a digit follows
unfoldable pub day_of : Timestamp → List ℕ → ReadTimestamp
day_of x t = if (starts_digit t) (time_of x t) (checked x t)

-- behind `YYYY-MM-`
unfoldable pub behind_month : ℕ → ℕ → List ℕ → ReadTimestamp
behind_month year month t =
    then (fixed 2 t) (λ d.
    if (starts (byte "T") d.1) (day_of (dated 2 year month d.0) (drop 1 d.1)) none)

-- behind `YYYY-`
unfoldable pub behind_year : ℕ → List ℕ → ReadTimestamp
behind_year year t =
    then (fixed 2 t) (λ m.
    if (starts (byte "T") m.1) (checked (dated 1 year m.0 0) (drop 1 m.1))
    (if (starts (byte "-") m.1) (behind_month year m.0 (drop 1 m.1)) none))

unfoldable pub timestamp : List ℕ → ReadTimestamp
timestamp t =
    then (fixed 4 t) (λ y.
    if (starts (byte "T") y.1) (checked (dated 0 y.0 0 0) (drop 1 y.1))
    (if (starts (byte "-") y.1) (behind_year y.0 (drop 1 y.1)) none))
