-- `converter::replaced_count` meets its contract. Assumes nothing.
-- what is counted and what is left are the whole
use Prim.Native.Nat.{◌+◌, ◌*◌, ◌-◌, ◌≤◌}
use mathlib.Core.Path.{◌≡◌}
use lib.ListN.{length, drop}
use Rattle.converter.specs.Convert.{converted}
use Rattle.converter.proofs.replaced_count.Given as goal

abbrev pub invariant-loop-i : goal.invariant-loop-i
invariant-loop-i l = (l.i ≤ length l.s) × (l.c ≤ l.i) × (l.i + 3 * l.c + length (converted (drop l.i l.s)) ≡ length (converted l.s))

abbrev pub decreases-loop-i : goal.decreases-loop-i
decreases-loop-i l = length l.s - l.i
