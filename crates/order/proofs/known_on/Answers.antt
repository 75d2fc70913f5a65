-- `order::known_on` meets its contract. Assumes nothing.
use native.Mathlib.Omega.{arith}
use Rattle.order.proofs.SharedLaws.{shared_from}
use Rattle.order.proofs.known_on.Goals as goal

pub returns-then-n-u-2 : goal.returns-then-n-u-2
returns-then-n-u-2 c =
    let a = c.args in
    let p = c.requires in
    shared_from a.a.now a.i a.ea a.b.now a.j a.eb a.x a.y a.n p.a_value p.x_le_i p.y_le_j c.if-u-j.true (omega (arith, p.i_le_ea, c.if-u-n.true, c.if-n-u.true)) (omega (arith, p.j_le_eb, c.if-u-n.true, c.if-n-u-2.true))
