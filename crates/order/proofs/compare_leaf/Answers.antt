-- `order::compare_leaf` meets its contract. Assumes nothing.
use Rattle.order.specs.Order.{fields_of}
use Rattle.order.specs.Steps.{scalar_in, number_at, text_at}
use Prim.Native.Nat.{◌+◌, ◌<◌}
use lib.IntN.{pos}
use Rattle.tape.specs.Bytes.{part, signed}
use Rattle.tape.specs.Tape.{timestamp_as}
use mathlib.Core.Path.{sym, ◌∙◌}
use native.Mathlib.Omega.{arith}
use lib.ListN.{get_or, drop}
use Rattle.order.proofs.Leaves.{leaf_place, low_key, int_key, float_at, decimal_key, timestamp_key, id-key, text-key, keys-numbers, keys-bytes, keys_decimal, keys_one, keys-float, keyed}
use Rattle.order.proofs.compare_leaf.Goals as goal

pub bounds-a-p : goal.bounds-a-p
bounds-a-p c = let x = leaf_place c.args.a.now c.args.p c.args.ea c.requires.leaf in let r = c.requires.leaf.room in omega arith

pub compare_byte-requires : goal.compare_byte-requires
compare_byte-requires c =
    let x = low_key c.args.a.now c.args.p c.args.ea c.requires.leaf c.if-k-le1.true in
    let y = low_key c.args.b.now c.args.q c.args.eb c.requires.leaf_2 (rw c.requires.p_value at c.if-k-le1.true) in
    let r = c.requires.leaf.room in
    let s = c.requires.leaf_2.room in
    let u = x.room in
    let v = y.room in
    record { p_in_bounds = omega arith; q_in_bounds = omega arith }

pub returns-then-k-le1 : goal.returns-then-k-le1
returns-then-k-le1 c =
    keyed (scalar_in (part c.args.a.now c.args.p c.args.ea)) (scalar_in (part c.args.b.now c.args.q c.args.eb)) _ c.compare_byte.ensures (low_key c.args.a.now c.args.p c.args.ea c.requires.leaf c.if-k-le1.true).key (rw (sym c.requires.p_value) at (low_key c.args.b.now c.args.q c.args.eb c.requires.leaf_2 (rw c.requires.p_value at c.if-k-le1.true)).key) (keys_one (get_or c.args.a.now c.args.p 0) (pos (get_or c.args.a.now (c.args.p + 1) 0)) (pos (get_or c.args.b.now (c.args.q + 1) 0)))

pub compare_int-requires : goal.compare_int-requires
compare_int-requires c =
    let x = int_key c.args.a.now c.args.p c.args.ea c.requires.leaf c.if-k-eq2.true in
    let y = int_key c.args.b.now c.args.q c.args.eb c.requires.leaf_2 (sym c.requires.p_value ∙ c.if-k-eq2.true) in
    let r = c.requires.leaf.room in
    let s = c.requires.leaf_2.room in
    let u = x.room in
    let v = y.room in
    record { p_in_bounds = omega arith; q_in_bounds = omega arith }

pub returns-then-k-eq2 : goal.returns-then-k-eq2
returns-then-k-eq2 c =
    keyed (scalar_in (part c.args.a.now c.args.p c.args.ea)) (scalar_in (part c.args.b.now c.args.q c.args.eb)) _ c.compare_int.ensures (int_key c.args.a.now c.args.p c.args.ea c.requires.leaf c.if-k-eq2.true).key (int_key c.args.b.now c.args.q c.args.eb c.requires.leaf_2 (sym c.requires.p_value ∙ c.if-k-eq2.true)).key (keys_one 2 (signed 64 (number_at c.args.a.now c.args.p 8 1)) (signed 64 (number_at c.args.b.now c.args.q 8 1)))

pub compare_float-requires : goal.compare_float-requires
compare_float-requires c =
    let x = float_at c.args.a.now c.args.p c.args.ea c.requires.leaf c.if-k-eq3.true in
    let y = float_at c.args.b.now c.args.q c.args.eb c.requires.leaf_2 (sym c.requires.p_value ∙ c.if-k-eq3.true) in
    let r = c.requires.leaf.room in
    let s = c.requires.leaf_2.room in
    let u = x.room in
    let v = y.room in
    record { p_in_bounds = omega arith; q_in_bounds = omega arith }

pub returns-then-k-eq3 : goal.returns-then-k-eq3
returns-then-k-eq3 c =
    keyed (scalar_in (part c.args.a.now c.args.p c.args.ea)) (scalar_in (part c.args.b.now c.args.q c.args.eb)) _ c.compare_float.ensures (float_at c.args.a.now c.args.p c.args.ea c.requires.leaf c.if-k-eq3.true).key (float_at c.args.b.now c.args.q c.args.eb c.requires.leaf_2 (sym c.requires.p_value ∙ c.if-k-eq3.true)).key (keys-float _ _)

pub compare_decimal-requires : goal.compare_decimal-requires
compare_decimal-requires c =
    let x = decimal_key c.args.a.now c.args.p c.args.ea c.requires.leaf c.if-k-eq4.true in
    let y = decimal_key c.args.b.now c.args.q c.args.eb c.requires.leaf_2 (sym c.requires.p_value ∙ c.if-k-eq4.true) in
    let r = c.requires.leaf.room in
    let s = c.requires.leaf_2.room in
    let u = x.room in
    let v = y.room in
    record { p_in_bounds = omega arith; q_in_bounds = omega arith }

pub returns-then-k-eq4 : goal.returns-then-k-eq4
returns-then-k-eq4 c =
    keyed (scalar_in (part c.args.a.now c.args.p c.args.ea)) (scalar_in (part c.args.b.now c.args.q c.args.eb)) _ c.compare_decimal.ensures (decimal_key c.args.a.now c.args.p c.args.ea c.requires.leaf c.if-k-eq4.true).key (decimal_key c.args.b.now c.args.q c.args.eb c.requires.leaf_2 (sym c.requires.p_value ∙ c.if-k-eq4.true)).key (keys_decimal 4 _ _)

pub compare_timestamp-requires : goal.compare_timestamp-requires
compare_timestamp-requires c =
    let x = timestamp_key c.args.a.now c.args.p c.args.ea c.requires.leaf c.if-k-eq5.true in
    let y = timestamp_key c.args.b.now c.args.q c.args.eb c.requires.leaf_2 (sym c.requires.p_value ∙ c.if-k-eq5.true) in
    let r = c.requires.leaf.room in
    let s = c.requires.leaf_2.room in
    let u = x.room in
    let v = y.room in
    record { timestamp_size_in_bounds = omega arith; timestamp_size_in_bounds_2 = omega arith }

pub returns-then-k-eq5 : goal.returns-then-k-eq5
returns-then-k-eq5 c =
    keyed (scalar_in (part c.args.a.now c.args.p c.args.ea)) (scalar_in (part c.args.b.now c.args.q c.args.eb)) _ c.compare_timestamp.ensures (timestamp_key c.args.a.now c.args.p c.args.ea c.requires.leaf c.if-k-eq5.true).key (timestamp_key c.args.b.now c.args.q c.args.eb c.requires.leaf_2 (sym c.requires.p_value ∙ c.if-k-eq5.true)).key (keys-numbers 5 (fields_of (timestamp_as (drop c.args.p c.args.a.now))) (fields_of (timestamp_as (drop c.args.q c.args.b.now))))

pub compare_id-requires : goal.compare_id-requires
compare_id-requires c =
    let x = id-key c.args.a.now c.args.p c.args.ea c.requires.leaf c.if-k-eq7.true in
    let y = id-key c.args.b.now c.args.q c.args.eb c.requires.leaf_2 (sym c.requires.p_value ∙ c.if-k-eq7.true) in
    let r = c.requires.leaf.room in
    let s = c.requires.leaf_2.room in
    let u = x.room in
    let v = y.room in
    record { p_in_bounds = omega arith; q_in_bounds = omega arith }

pub returns-then-k-eq7 : goal.returns-then-k-eq7
returns-then-k-eq7 c =
    keyed (scalar_in (part c.args.a.now c.args.p c.args.ea)) (scalar_in (part c.args.b.now c.args.q c.args.eb)) _ c.compare_id.ensures (id-key c.args.a.now c.args.p c.args.ea c.requires.leaf c.if-k-eq7.true).key (id-key c.args.b.now c.args.q c.args.eb c.requires.leaf_2 (sym c.requires.p_value ∙ c.if-k-eq7.true)).key (keys_one 7 (pos (number_at c.args.a.now c.args.p 4 1)) (pos (number_at c.args.b.now c.args.q 4 1)))

pub compare_text-requires : goal.compare_text-requires
compare_text-requires c =
    let k = c.requires.p_value in
    let i1 = c.if-k-le1.false in
    let i2 = c.if-k-eq2.false in
    let i3 = c.if-k-eq3.false in
    let i4 = c.if-k-eq4.false in
    let i5 = c.if-k-eq5.false in
    let i6 = c.if-k-eq7.false in
    let six : 5 < get_or c.args.a.now c.args.p 0 = omega arith in
    let x = text-key c.args.a.now c.args.p c.args.ea c.requires.leaf six i6 in
    let y = text-key c.args.b.now c.args.q c.args.eb c.requires.leaf_2 (omega arith) (λ z. i6 (k ∙ z)) in
    let r = c.requires.leaf.room in
    let s = c.requires.leaf_2.room in
    let u = x.room in
    let v = y.room in
    record { p_in_bounds = omega arith; q_in_bounds = omega arith; x_le_p = c.requires.x_le_p; y_le_q = c.requires.y_le_q; a_value = c.requires.a_value }

pub returns : goal.returns
returns c =
    let k = c.requires.p_value in
    let i1 = c.if-k-le1.false in
    let i2 = c.if-k-eq2.false in
    let i3 = c.if-k-eq3.false in
    let i4 = c.if-k-eq4.false in
    let i5 = c.if-k-eq5.false in
    let i6 = c.if-k-eq7.false in
    let six : 5 < get_or c.args.a.now c.args.p 0 = omega arith in
    keyed (scalar_in (part c.args.a.now c.args.p c.args.ea)) (scalar_in (part c.args.b.now c.args.q c.args.eb)) _ c.compare_text.ensures (text-key c.args.a.now c.args.p c.args.ea c.requires.leaf six i6).key (rw (sym c.requires.p_value) at (text-key c.args.b.now c.args.q c.args.eb c.requires.leaf_2 (omega arith) (λ z. i6 (k ∙ z))).key) (keys-bytes (get_or c.args.a.now c.args.p 0) (text_at c.args.a.now c.args.p) (text_at c.args.b.now c.args.q))
