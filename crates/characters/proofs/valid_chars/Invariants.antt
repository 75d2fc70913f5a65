-- `characters::valid_chars` meets its contract. The invariant: what is left from i decides what is left from the first place. Assumes nothing.
use mathlib.Core.Path.{◌≡◌}
use Prim.Native.Nat.{◌-◌, ◌≤◌}
use lib.ListN.{length, drop}
use Rattle.characters.specs.Utf8.{after, valid}
use Rattle.characters.proofs.valid_chars.Given as goal

abbrev pub invariant-loop-i : goal.invariant-loop-i
invariant-loop-i l = (l.i ≤ length l.s) × (valid (drop l.from l.s) ≡ after 0 (drop l.i l.s))

abbrev pub decreases-loop-i : goal.decreases-loop-i
decreases-loop-i l = length l.s - l.i
