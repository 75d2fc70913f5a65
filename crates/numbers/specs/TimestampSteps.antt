-- What inner functions on timestamps, reading and writing, say in the terms of the rules. Assumes nothing: these are definitions.
use Rattle.std.specs.Prelude.{ℕ, ◌+◌, ◌≤◌, ◌≡◌, List, ◌∷◌, ◌++◌, get_or, Some, None}
use Rattle.std.specs.Prelude as std
use Rattle.std.proofs.Math.Option.{Option, none, some}
use Rattle.output.specs.Logic.{byte}
use Rattle.text_rules.specs.Digits.{pad}
use Rattle.numbers.specs.Timestamp.{date_hour_and_minute}
use Rattle.numbers.specs.declared.timestamp.Timestamp.{Timestamp}

-- `hh:mm` and the place behind it, or nothing
abbrev pub clock_read : std.Option (ℕ × ℕ × ℕ) → Option ((ℕ × ℕ) × ℕ)
clock_read (Some v) = some ((v.0, v.1), v.2)
clock_read None = none

-- `-`, `T`, `:`, `:` and `Z` stand at their places in `MM-DDThh:mm:ssZ`
pub record Marked (text : List ℕ) (at : ℕ) : Type 0 where
  pub day : get_or text (at + 2) 0 ≡ byte "-"
  pub hour : get_or text (at + 5) 0 ≡ byte "T"
  pub minute : get_or text (at + 8) 0 ≡ byte ":"
  pub second : get_or text (at + 11) 0 ≡ byte ":"
  pub offset : get_or text (at + 14) 0 ≡ byte "Z"

-- the fields of a date and a time lie within their bounds, the day within those of every month
pub record Usual (y m d h i s : ℕ) : Type 0 where
  pub year : (1 ≤ y) × (y ≤ 9999)
  pub month : (1 ≤ m) × (m ≤ 12)
  pub day : (1 ≤ d) × (d ≤ 28)
  pub hour : h ≤ 23
  pub minute : i ≤ 59
  pub second : s ≤ 59

-- ---- written

-- `YYYY-MM-DDThh:mm:ss`
abbrev pub to_second : Timestamp → List ℕ
to_second x = date_hour_and_minute x.year x.month x.day x.hour x.minute ++ (byte ":" ∷ pad 2 x.second)
