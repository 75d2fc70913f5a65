-- `converter::count_bytes` meets its contract. Assumes nothing.
-- what is counted and what is left are the whole
use Prim.Native.Nat.{◌+◌, ◌*◌, ◌≤◌}
use mathlib.Core.Path.{◌≡◌}
use lib.ListN.{length, drop}
use Rattle.converter.specs.Convert.{converted}
use Rattle.converter.proofs.count_bytes.Given as goal

abbrev pub invariant-loop-b : goal.invariant-loop-b
invariant-loop-b l = (l.b-index ≤ length l.s) × (l.c ≤ l.b-index) × (l.b-index + 3 * l.c + length (converted (drop l.b-index l.s)) ≡ length (converted l.s))
