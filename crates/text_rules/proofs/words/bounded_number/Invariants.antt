-- `words::bounded_number` meets its contract. Assumes nothing.
use Prim.Native.Nat.{◌≤◌}
use mathlib.Core.Path.{◌≡◌}
use lib.ListN.{length, drop}
use Rattle.text_rules.specs.Digits.{number}
use Rattle.text_rules.proofs.words.bounded_number.Given as goal

abbrev pub invariant-loop-i : goal.invariant-loop-i
invariant-loop-i l = (l.from ≤ l.i) × (l.i ≤ length l.w) × (l.n ≤ 4_294_967_295) × (number l.n (drop l.i l.w) ≡ number 0 (drop l.from l.w))
