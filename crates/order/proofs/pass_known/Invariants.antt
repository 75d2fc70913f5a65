-- `order::pass_known` meets its contract. Assumes nothing.
use mathlib.Core.Path.{◌≡◌}
use Prim.Native.Nat.{◌+◌, ◌-◌}
use Rattle.order.specs.Steps.{Passed}
use Rattle.order.proofs.pass_known.Given as goal

abbrev pub invariant-loop-x : goal.invariant-loop-x
invariant-loop-x l = (l.stop ≡ l.at + l.known) × Passed l.depth l.frame l.tape l.at l.end l.known l.x

abbrev pub decreases-loop-x : goal.decreases-loop-x
decreases-loop-x l = l.stop - l.x
