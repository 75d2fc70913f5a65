-- `field_index::fields::field_count` meets its contract. Assumes nothing.
-- n fields are passed, and the others stand from a place on
use native.Mathlib.Omega.{arith}
use Rattle.field_index.proofs.FieldLaws.{its_turn, its_size, body_next, one_less, next-by, none-size}
use Rattle.field_index.proofs.fields.field_count.Goals as goal

pub value_size-requires : goal.value_size-requires
value_size-requires c =
    let l = c.loop-at in
    let s = c.args.tape.now in
    let e = c.args.end in
    let h = c.loop-at-test.true in
    let b = l.invariant.body in
    rw c.value_place-inner.ensures (record { at_le_end = (its_turn s l.at e b h).within; end_in_bounds = b.inside; nonzero = its_size s l.at e b h })

pub overflow_add-at : goal.overflow_add-at
overflow_add-at c =
    let l = c.loop-at in
    let s = c.args.tape.now in
    let e = c.args.end in
    let h = c.loop-at-test.true in
    let t = its_turn s l.at e l.invariant.body h in
    let f = t.forth in
    let g = t.behind in
    let j = next-by s l.at e l.invariant.body h _ _ c.value_place-inner.ensures c.value_size.ensures in
    omega arith

pub loop-at-smaller : goal.loop-at-smaller
loop-at-smaller c =
    let l = c.loop-at in
    let s = c.args.tape.now in
    let e = c.args.end in
    let h = c.loop-at-test.true in
    let t = its_turn s l.at e l.invariant.body h in
    let f = t.forth in
    let g = t.behind in
    let j = next-by s l.at e l.invariant.body h _ _ c.value_place-inner.ensures c.value_size.ensures in
    omega arith

pub loop-at-preserved : goal.loop-at-preserved
loop-at-preserved c =
    let l = c.loop-at in
    let s = c.args.tape.now in
    let e = c.args.end in
    let h = c.loop-at-test.true in
    let t = its_turn s l.at e l.invariant.body h in
    let f = t.forth in
    let g = t.behind in
    let j = next-by s l.at e l.invariant.body h _ _ c.value_place-inner.ensures c.value_size.ensures in
    let c₁ = l.invariant.count in
    let o = one_less s l.at e l.invariant.body h in
    let w = l.invariant.few in
    record { body = rw j (body_next s l.at e l.invariant.body h); count = rw j (omega arith); few = omega arith }

pub returns : goal.returns
returns c =
    let l = c.loop-at in
    let s = c.args.tape.now in
    let e = c.args.end in
    let n = none-size s l.at e l.invariant.body c.loop-at-test.false in
    let k = l.invariant.count in
    omega arith
