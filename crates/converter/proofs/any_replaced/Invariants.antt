-- `converter::any_replaced` meets its contract. Assumes nothing.
-- where no flag is set yet, the whole stays as it is if what is left does
use Prim.Native.Nat.{◌≤◌}
use mathlib.Core.Path.{◌≡◌}
use mathlib.Core.Bool.{false}
use lib.ListN.{length, drop}
use Rattle.converter.specs.Convert.{converted}
use Rattle.converter.proofs.any_replaced.Given as goal

abbrev pub invariant-loop-b : goal.invariant-loop-b
invariant-loop-b l = (l.b-index ≤ length l.s) × (l.any ≡ false → converted (drop l.b-index l.s) ≡ drop l.b-index l.s → converted l.s ≡ l.s)
