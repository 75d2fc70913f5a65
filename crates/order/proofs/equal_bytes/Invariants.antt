-- `order::equal_bytes` meets its contract. Assumes nothing.
use Rattle.order.specs.Steps.{Shared}
use Rattle.order.proofs.equal_bytes.Given as goal

abbrev pub invariant-loop-n : goal.invariant-loop-n
invariant-loop-n l = Shared l.a l.i l.ea l.b l.j l.eb l.n
