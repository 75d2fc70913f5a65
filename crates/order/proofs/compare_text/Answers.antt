-- `order::compare_text` meets its contract. Assumes nothing.
use native.Mathlib.Omega.{arith}
use Prim.Native.Nat.{◌+◌}
use Rattle.order.proofs.SharedLaws.{shared_parts}
use Rattle.order.proofs.compare_text.Goals as goal

pub compare_bytes-requires : goal.compare_bytes-requires
compare_bytes-requires c =
    let a = c.args in
    let p = c.requires in
    let u = c.u32_at.ensures.0 in
    let v = c.u32_at-2.ensures.0 in
    shared_parts a.a.now (a.p + 5) (a.p + 5 + c.u32_at.result) a.b.now (a.q + 5) (a.q + 5 + c.u32_at-2.result) c.known_on-m.ensures (omega (arith, p.p_in_bounds)) (omega (arith, p.q_in_bounds))
