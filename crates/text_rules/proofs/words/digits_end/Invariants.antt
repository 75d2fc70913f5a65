-- `words::digits_end` meets its contract. Assumes nothing.
use Prim.Native.Nat.{◌≤◌}
use mathlib.Core.Path.{◌≡◌}
use lib.ListN.{length, drop}
use Rattle.text_rules.specs.Digits.{behind_digits}
use Rattle.text_rules.proofs.words.digits_end.Given as goal

abbrev pub invariant-loop-i : goal.invariant-loop-i
invariant-loop-i l = (l.from ≤ l.i) × (l.i ≤ length l.text) × (behind_digits (drop l.i l.text) ≡ behind_digits (drop l.from l.text))
