-- `order::equal_bytes` meets its contract. Assumes nothing.
use Rattle.std.proofs.Common.{arith}
use Rattle.order.proofs.SharedLaws.{shared_byte}
use Rattle.order.proofs.equal_bytes.Goals as goal

pub loop-n-preserved : goal.loop-n-preserved
loop-n-preserved c =
    let a = c.args in
    let p = c.requires in
    let m = c.min-most.ensures in
    shared_byte a.a.now a.i a.ea a.b.now a.j a.eb c.loop-n.invariant (omega arith) (omega arith) (omega arith) (omega arith) c.if-a-i.false
