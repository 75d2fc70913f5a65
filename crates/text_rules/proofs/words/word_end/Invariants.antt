-- `words::word_end` meets its contract. What is left to show: the word from `i` on ends where the word from `from` on does. Assumes nothing.
use Prim.Native.Nat.{ℕ, ◌≤◌}
use lib.ListN.{length}
use Rattle.text_rules.specs.WordSteps.{Spanned}
use Rattle.text_rules.proofs.words.word_end.Given as goal

abbrev pub invariant-loop-i : goal.invariant-loop-i
invariant-loop-i l = (l.from ≤ l.i) × (l.i ≤ length l.text) × ((r : ℕ) → Spanned l.text l.i r → Spanned l.text l.from r)
