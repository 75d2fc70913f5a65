-- `clobs::clob_escapes` meets its contract. The invariant: what is added up and the body of what is left are the whole body. Assumes nothing.
use Prim.Native.Nat.{◌+◌}
use mathlib.Core.Path.{◌≡◌, ap}
use mathlib.Core.List.{[]}
use native.Mathlib.Omega.{arith}
use lib.ListN.{length, get_or, drop, length-append, drop_of_length-le}
use Rattle.text_rules.specs.Escapes.{clob_escape, clob_body}
use Rattle.text_rules.proofs.ClobLaws.{clob-step}
use Rattle.measure.proofs.clobs.clob_escapes.Goals as goal

pub loop-b-preserved : goal.loop-b-preserved
loop-b-preserved c =
    let l = c.loop-b in
    let i = l.b-index in
    let s = c.args.s.now in
    let e = ap length (clob-step s i (omega arith)) in
    let p = length-append (clob_escape (get_or s i 0)) (clob_body (drop (i + 1) s)) in
    let h = c.clob_escape-c.ensures in
    record { most = omega (arith, h.1); sum = omega (arith, e, p, h.0, l.invariant.sum) }

pub returns : goal.returns
unfolding clob_body
returns c =
    let l = c.loop-b in
    let s = c.args.s.now in
    let e : drop l.b-index s ≡ [] = drop_of_length-le s {i = l.b-index} (omega arith) in
    omega (arith, rw e at l.invariant.sum)
