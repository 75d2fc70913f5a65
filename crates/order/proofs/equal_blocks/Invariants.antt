-- `order::equal_blocks` meets its contract. Assumes nothing.
use Prim.Native.Nat.{◌+◌, ◌-◌}
use Rattle.order.specs.Steps.{Shared}
use Rattle.order.proofs.equal_blocks.Given as goal

abbrev pub invariant-loop-n : goal.invariant-loop-n
invariant-loop-n l = Shared l.a l.i (l.i + l.most) l.b l.j (l.j + l.most) l.n

abbrev pub decreases-loop-n : goal.decreases-loop-n
decreases-loop-n l = l.most - l.n
