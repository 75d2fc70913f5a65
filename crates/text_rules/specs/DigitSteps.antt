-- What the inner functions on digits say of their answers. Assumes nothing: these are definitions.
use Rattle.std.specs.Prelude.{ℕ, ◌+◌, ◌^◌, ◌≤◌, ◌<◌, ◌≡◌, List, ◌++◌, length, drop, Option, Some, None}
use Rattle.std.proofs.lemmas.List.Edits.{sets}
use Rattle.lanes.specs.DigitLanes.{word_of}
use Rattle.text_rules.specs.Digits.{count, digits, number, run, behind_digits}

-- the digits of n, with room for all of them, written from p up to r
pub record Led (a b : List ℕ) (p r n : ℕ) : Type 0 where
  pub bytes : b ≡ sets a p (digits n)
  pub end : r ≡ p + count 19 n

-- the same, and bytes behind them that the next eight overwrite
pub record Ahead (a b : List ℕ) (p r n : ℕ) : Type 0 where
  pub over : (t : List ℕ) → length t ≡ 8 → sets b r t ≡ sets a p (digits n ++ t)
  pub end : r ≡ p + count 19 n

-- the digits d of a number have r zeros in front
pub record Zeros (d r : ℕ) : Type 0 where
  pub of : (x : ℕ) → x < 100000000 → d ≡ word_of x → r + count 19 x ≡ 8

-- the digits at `from`, joined behind those whose number is a: their number and the place behind them, or too many for 64 bits
abbrev pub RunJoined : List ℕ → ℕ → ℕ → Option (ℕ × ℕ) → Type 0
RunJoined text from a (Some r) =
    (number a (run (drop from text)) ≡ r.0) × (behind_digits (drop from text) ≡ drop r.1 text) × (from + length (run (drop from text)) ≡ r.1) × (r.1 ≤ length text) × (r.0 < 2 ^ 64)
RunJoined text from a None = 2 ^ 64 ≤ number a (run (drop from text))
