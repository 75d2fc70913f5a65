-- `order::pass_known` meets its contract. Assumes nothing.
use mathlib.Core.Path.{refl}
use native.Mathlib.Omega.{arith}
use Prim.Native.Nat.{◌<◌}
use Rattle.tape.specs.Fine.{Bytes}
use Rattle.order.proofs.SharedLaws.{value_here, passed_none, passed_on}
use Rattle.order.proofs.ValueLaws.{no_depth}
use Rattle.order.proofs.pass_known.Goals as goal

pub returns-then-depth-eq0 : goal.returns-then-depth-eq0
returns-then-depth-eq0 c =
    let all : Bytes c.args.tape.now = λ i. (c.shared_slice_known-1.given i).fits in
    record { least = omega arith; most = omega arith; left = c.requires.body; other = λ t j f b h q. absurd (no_depth _ _ _ c.if-depth-eq0.true c.requires.body.fine); same = λ t j f b h q. absurd (no_depth _ _ _ c.if-depth-eq0.true c.requires.body.fine) }

pub loop-x-init : goal.loop-x-init
loop-x-init c =
    let all : Bytes c.args.tape.now = λ i. (c.shared_slice_known-1.given i).fits in
    (refl, passed_none c.args.depth c.args.frame c.if-depth-eq0.false c.args.tape.now c.args.at c.args.end c.args.known all c.requires.body)

pub value_size-requires : goal.value_size-requires
value_size-requires c =
    let a = c.args in
    let l = c.loop-x in
    let i = l.invariant.0 in
    let g = l.invariant.1.left in
    let k = c.requires.known_bound in
    let t = c.loop-x-test.true in
    let lt : l.x < a.end = omega arith in
    let v = value_here a.depth a.frame c.if-depth-eq0.false a.tape.now l.x a.end g lt _ c.value_place-p.ensures in
    record { at_le_end = v.within; end_in_bounds = g.room; nonzero = v.some }

pub overflow_add-y : goal.overflow_add-y
overflow_add-y c =
    let a = c.args in
    let l = c.loop-x in
    let i = l.invariant.0 in
    let g = l.invariant.1.left in
    let r = g.room in
    let k = c.requires.known_bound in
    let t = c.loop-x-test.true in
    let lt : l.x < a.end = omega arith in
    let v = value_here a.depth a.frame c.if-depth-eq0.false a.tape.now l.x a.end g lt _ c.value_place-p.ensures in
    let z = c.value_size.ensures in
    let y = v.behind in
    let w = v.forth in
    omega arith

pub loop-x-smaller : goal.loop-x-smaller
loop-x-smaller c =
    let a = c.args in
    let l = c.loop-x in
    let i = l.invariant.0 in
    let g = l.invariant.1.left in
    let r = g.room in
    let k = c.requires.known_bound in
    let t = c.loop-x-test.true in
    let lt : l.x < a.end = omega arith in
    let v = value_here a.depth a.frame c.if-depth-eq0.false a.tape.now l.x a.end g lt _ c.value_place-p.ensures in
    let z = c.value_size.ensures in
    let y = v.behind in
    let w = v.forth in
    omega arith

pub returns-then-stop-y : goal.returns-then-stop-y
returns-then-stop-y c = c.loop-x.invariant.1

pub loop-x-preserved : goal.loop-x-preserved
loop-x-preserved c =
    let a = c.args in
    let all : Bytes a.tape.now = λ i. (c.shared_slice_known-1.given i).fits in
    let l = c.loop-x in
    let i = l.invariant.0 in
    let k = c.requires.known_bound in
    let t = c.loop-x-test.true in
    let lt : l.x < a.end = omega arith in
    (i, passed_on a.depth a.frame c.if-depth-eq0.false a.tape.now a.at a.end a.known all l.invariant.1 lt c.value_place-p.ensures c.value_size.ensures (omega (arith, c.if-stop-y.false)))
