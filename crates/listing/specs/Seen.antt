-- The numbers that are kept while a list is replayed: its line, the length of its current tape, and how many tapes, texts, refusals,
-- writes, reads and differences were met. Assumes nothing: these are definitions.
use Rattle.std.specs.Prelude.{ℕ, ◌+◌, ◌≤◌, ◌≡◌, ltb}
use Rattle.output.specs.Logic.{if}
use Rattle.listing.specs.declared.report.Seen.{Seen}

-- one more of a number, up to 4,294,967,295
unfoldable pub one_more : ℕ → ℕ
one_more n = if (ltb n 4_294_967_295) (n + 1) n

abbrev pub differences : Seen → ℕ
differences seen = seen.differences

-- no difference is forgotten
pub record Keeps (a b : Seen) : Type 0 where
  pub kept : differences a ≤ differences b

-- one difference more, and nothing else
abbrev pub one_differs : Seen → Seen
one_differs seen = record seen { differences = one_more seen.differences }

-- one difference more
pub record Differs (a b : Seen) : Type 0 where
  pub exactly : b ≡ one_differs a
  pub kept : differences a ≤ differences b

-- P holds and nothing is counted, or it does not and there is one difference more
pub data Judged (P : Type 0) (a b : Seen) : Type 0 where
  agrees : P → b ≡ a → Judged P a b
  deviates : (P → ⊥) → b ≡ one_differs a → Judged P a b
