-- `compare_nodes` and `compare_value` meet their contracts. Assumes nothing.
use mathlib.Core.Path.{◌≡◌, refl, sym, ap, ◌∙◌}
use native.Mathlib.Omega.{arith}
use Rattle.std.proofs.lemmas.Map.Lookups.{exact_unsigned}
use Rattle.order.proofs.CodeLaws.{equal_of}
use lib.ListN.{get_or}
use Rattle.tape.specs.Fine.{Bytes}
use Rattle.tape.specs.CheckSteps.{frame_of}
use Rattle.order.proofs.ValueLaws.{value-place, scalar-at, header_room, container_at, value_kind, value-scalar, value_marker, value_container, child_here, value_found, nodes_longer, nodes_shorter, nodes_ended, front_decides, value_decides, both_pass, no_depth}
use Rattle.order.proofs.SharedLaws.{shared_on}
use Rattle.tape.proofs.Turning.{OfScalar}
use Prim.Native.Nat.{◌≤◌}
use Rattle.order.proofs.+compare_nodes_compare_value.Goals as goal

pub compare_nodes-returns-then-depth-eq0 : goal.compare_nodes-returns-then-depth-eq0
compare_nodes-returns-then-depth-eq0 t c =
    absurd (no_depth c.args.depth c.args.frame _ c.if-depth-eq0.true c.requires.body.fine)

pub compare_nodes-loop-x-init : goal.compare_nodes-loop-x-init
compare_nodes-loop-x-init t c =
    let a = c.args in
    let q = c.requires in
    let w = c.pass_known-x.ensures in
    let all : Bytes a.b.now = λ i. (c.shared_slice_known-2-1.given i).fits in
    let sh = shared_on a.a.now a.i a.ea a.b.now a.j a.eb c.pass_known-x.result q.shared w.least w.most in
    (w.left, w.other a.b.now a.j a.eb all q.body_2 q.shared, w.same a.b.now a.j a.eb all q.body_2 q.shared, sh.bytes)

pub compare_nodes-returns-then-eb-y : goal.compare_nodes-returns-then-eb-y
compare_nodes-returns-then-eb-y t c =
    let a = c.args in
    let l = c.loop-x in
    let v = l.invariant in
    sym ((v.2 ∙ nodes_longer a.depth a.frame a.a.now a.b.now l.x a.ea l.y a.eb c.if-depth-eq0.false v.0 v.1 c.loop-x-test.true c.if-eb-y.true))

pub compare_nodes-compare_fronts-f-requires : goal.compare_nodes-compare_fronts-f-requires
compare_nodes-compare_fronts-f-requires t c =
    let a = c.args in
    let l = c.loop-x in
    let v = l.invariant in
    record { headed = (child_here a.depth a.frame a.a.now l.x a.ea c.if-depth-eq0.false c.loop-x-test.true v.0).headed; headed_2 = (child_here a.depth a.frame a.b.now l.y a.eb c.if-depth-eq0.false (omega (arith, c.if-eb-y.false)) v.1).headed }

pub compare_nodes-returns-then-is_ne : goal.compare_nodes-returns-then-is_ne
compare_nodes-returns-then-is_ne t c =
    let a = c.args in
    let l = c.loop-x in
    let v = l.invariant in
    front_decides a.depth a.frame a.a.now a.b.now l.x a.ea l.y a.eb c.if-depth-eq0.false v.0 v.1 c.loop-x-test.true (omega (arith, c.if-eb-y.false)) c.compare_fronts-f.ensures.order (sym c.is_ne.ensures ∙ c.if-is_ne.true) ∙ sym (v.2)

pub compare_nodes-compare_value-v-requires : goal.compare_nodes-compare_value-v-requires
compare_nodes-compare_value-v-requires t c =
    let a = c.args in
    let l = c.loop-x in
    let v = l.invariant in
    let nz = c.if-depth-eq0.false in
    let pl = c.compare_fronts-f.ensures.places (equal_of _ (sym c.is_ne.ensures ∙ c.if-is_ne.false)) in
    let f = value_found a.depth a.frame a.a.now l.x a.ea nz c.loop-x-test.true v.0 pl.0 in
    let g = value_found a.depth a.frame a.b.now l.y a.eb nz (omega (arith, c.if-eb-y.false)) v.1 pl.1 in
    let m = c.decreases in
    (omega arith, (f.value, (g.value, (f.forth, (g.forth, v.3)))))

pub compare_nodes-returns-then-is_ne-2 : goal.compare_nodes-returns-then-is_ne-2
compare_nodes-returns-then-is_ne-2 t c =
    let a = c.args in
    let l = c.loop-x in
    let v = l.invariant in
    let pl = c.compare_fronts-f.ensures.places (equal_of _ (sym c.is_ne.ensures ∙ c.if-is_ne.false)) in
    value_decides a.depth a.frame a.a.now a.b.now l.x a.ea l.y a.eb c.if-depth-eq0.false v.0 v.1 c.loop-x-test.true (omega (arith, c.if-eb-y.false)) c.compare_fronts-f.ensures.order (sym c.is_ne.ensures ∙ c.if-is_ne.false) pl.0 pl.1 c.compare_value-v.ensures (sym c.is_ne-in-loop-x.ensures ∙ c.if-is_ne-2.true) ∙ sym (v.2)

pub compare_nodes-value_size-requires : goal.compare_nodes-value_size-requires
compare_nodes-value_size-requires t c =
    let a = c.args in
    let l = c.loop-x in
    let v = l.invariant in
    let pl = c.compare_fronts-f.ensures.places (equal_of _ (sym c.is_ne.ensures ∙ c.if-is_ne.false)) in
    let f = value_found a.depth a.frame a.a.now l.x a.ea c.if-depth-eq0.false c.loop-x-test.true v.0 pl.0 in
    record { at_le_end = f.value.within; end_in_bounds = f.value.room; nonzero = f.sized }

pub compare_nodes-overflow_add-x : goal.compare_nodes-overflow_add-x
compare_nodes-overflow_add-x t c =
    let a = c.args in
    let l = c.loop-x in
    let v = l.invariant in
    let pl = c.compare_fronts-f.ensures.places (equal_of _ (sym c.is_ne.ensures ∙ c.if-is_ne.false)) in
    let f = value_found a.depth a.frame a.a.now l.x a.ea c.if-depth-eq0.false c.loop-x-test.true v.0 pl.0 in
    let z = c.value_size.ensures in
    let w = f.behind in
    let u = f.sized in
    let o = f.forth in
    let r = f.value.room in
    omega arith

pub compare_nodes-value_size-requires-in-loop-x : goal.compare_nodes-value_size-requires-in-loop-x
compare_nodes-value_size-requires-in-loop-x t c =
    let a = c.args in
    let l = c.loop-x in
    let v = l.invariant in
    let pl = c.compare_fronts-f.ensures.places (equal_of _ (sym c.is_ne.ensures ∙ c.if-is_ne.false)) in
    let f = value_found a.depth a.frame a.b.now l.y a.eb c.if-depth-eq0.false (omega (arith, c.if-eb-y.false)) v.1 pl.1 in
    record { at_le_end = f.value.within; end_in_bounds = f.value.room; nonzero = f.sized }

pub compare_nodes-overflow_add-y-in-loop-x : goal.compare_nodes-overflow_add-y-in-loop-x
compare_nodes-overflow_add-y-in-loop-x t c =
    let a = c.args in
    let l = c.loop-x in
    let v = l.invariant in
    let pl = c.compare_fronts-f.ensures.places (equal_of _ (sym c.is_ne.ensures ∙ c.if-is_ne.false)) in
    let f = value_found a.depth a.frame a.b.now l.y a.eb c.if-depth-eq0.false (omega (arith, c.if-eb-y.false)) v.1 pl.1 in
    let z = c.value_size-in-loop-x.ensures in
    let w = f.behind in
    let r = c.ranges.eb.fits in
    omega arith

pub compare_nodes-loop-x-smaller : goal.compare_nodes-loop-x-smaller
compare_nodes-loop-x-smaller t c =
    let a = c.args in
    let l = c.loop-x in
    let v = l.invariant in
    let pl = c.compare_fronts-f.ensures.places (equal_of _ (sym c.is_ne.ensures ∙ c.if-is_ne.false)) in
    let f = value_found a.depth a.frame a.a.now l.x a.ea c.if-depth-eq0.false c.loop-x-test.true v.0 pl.0 in
    let z = c.value_size.ensures in
    let w = f.behind in
    let u = f.sized in
    let o = f.forth in
    let r = f.value.room in
    omega arith

pub compare_nodes-loop-x-preserved : goal.compare_nodes-loop-x-preserved
compare_nodes-loop-x-preserved t c =
    let a = c.args in
    let l = c.loop-x in
    let v = l.invariant in
    let nz = c.if-depth-eq0.false in
    let lt = c.loop-x-test.true in
    let pl = c.compare_fronts-f.ensures.places (equal_of _ (sym c.is_ne.ensures ∙ c.if-is_ne.false)) in
    let f = value_found a.depth a.frame a.a.now l.x a.ea nz lt v.0 pl.0 in
    let g = value_found a.depth a.frame a.b.now l.y a.eb nz (omega (arith, c.if-eb-y.false)) v.1 pl.1 in
    let order = both_pass a.depth a.frame a.a.now a.b.now l.x a.ea l.y a.eb nz v.0 v.1 lt (omega (arith, c.if-eb-y.false)) c.compare_fronts-f.ensures.order (sym c.is_ne.ensures ∙ c.if-is_ne.false) pl.0 pl.1 c.compare_value-v.ensures (sym c.is_ne-in-loop-x.ensures ∙ c.if-is_ne-2.false) c.value_size.ensures c.value_size-in-loop-x.ensures in
    (f.next c.value_size.ensures, g.next c.value_size-in-loop-x.ensures, v.2 ∙ order, refl)

pub compare_nodes-returns-then-y-eb : goal.compare_nodes-returns-then-y-eb
compare_nodes-returns-then-y-eb t c =
    let a = c.args in
    let l = c.loop-x in
    let v = l.invariant in
    sym ((v.2 ∙ nodes_shorter a.depth a.frame a.a.now a.b.now l.x a.ea l.y a.eb c.if-depth-eq0.false v.0 v.1 c.loop-x-test.false c.if-y-eb.true))

pub compare_nodes-returns : goal.compare_nodes-returns
compare_nodes-returns t c =
    let a = c.args in
    let l = c.loop-x in
    let v = l.invariant in
    sym ((v.2 ∙ nodes_ended a.depth a.frame a.a.now a.b.now l.x a.ea l.y a.eb c.if-depth-eq0.false v.0 v.1 c.loop-x-test.false c.if-y-eb.false))

pub compare_value-bounds-a-p : goal.compare_value-bounds-a-p
compare_value-bounds-a-p t c =
    let a = c.args in
    let s = a.a.now in
    let t' = a.b.now in
    let g = c.requires.value_at in
    let h = c.requires.value_at_2 in
    let w = value-place a.depth s a.p a.ea g in
    let r = g.room in
    omega arith

pub compare_value-bounds-b-q : goal.compare_value-bounds-b-q
compare_value-bounds-b-q t c =
    let a = c.args in
    let s = a.a.now in
    let t' = a.b.now in
    let g = c.requires.value_at in
    let h = c.requires.value_at_2 in
    let w = value-place a.depth t' a.q a.eb h in
    let r = h in
    omega arith

pub compare_value-returns-then-is_ne : goal.compare_value-returns-then-is_ne
compare_value-returns-then-is_ne t c =
    let a = c.args in
    value_kind a.depth a.a.now a.b.now a.p a.ea a.q a.eb c.requires.value_at c.requires.value_at_2 _ c.cmp-by_kind.ensures (sym c.is_ne.ensures ∙ c.if-is_ne.true)

pub compare_value-compare_leaf-requires : goal.compare_value-compare_leaf-requires
compare_value-compare_leaf-requires t c =
    let a = c.args in
    let s = a.a.now in
    let t' = a.b.now in
    let g = c.requires.value_at in
    let h = c.requires.value_at_2 in
    let same : get_or s a.p 0 ≡ get_or t' a.q 0 = exact_unsigned _ _ (sym c.cmp-by_kind.ensures ∙ equal_of _ (sym c.is_ne.ensures ∙ c.if-is_ne.false)) in
    let plain : OfScalar (get_or s a.p 0) = (λ j u z k. omega (arith, c.if-k-lt10.true)) in
    record { leaf = (scalar-at a.depth s a.p a.ea g plain).leaf; leaf_2 = (scalar-at a.depth t' a.q a.eb h (λ j u z k. plain j u z (same ∙ k))).leaf; p_value = same; x_le_p = c.requires.x_le_p; y_le_q = c.requires.y_le_q; a_value = c.requires.a_value }

pub compare_value-returns-then-k-lt10 : goal.compare_value-returns-then-k-lt10
compare_value-returns-then-k-lt10 t c =
    let a = c.args in
    let s = a.a.now in
    let t' = a.b.now in
    let g = c.requires.value_at in
    let h = c.requires.value_at_2 in
    let same : get_or s a.p 0 ≡ get_or t' a.q 0 = exact_unsigned _ _ (sym c.cmp-by_kind.ensures ∙ equal_of _ (sym c.is_ne.ensures ∙ c.if-is_ne.false)) in
    let plain : OfScalar (get_or s a.p 0) = (λ j u z k. omega (arith, c.if-k-lt10.true)) in
    c.compare_leaf.ensures ∙ sym ((value-scalar a.depth s t' a.p a.ea a.q a.eb g h same plain))

pub compare_value-returns-then-k-eq14 : goal.compare_value-returns-then-k-eq14
compare_value-returns-then-k-eq14 t c =
    let a = c.args in
    let s = a.a.now in
    let t' = a.b.now in
    let g = c.requires.value_at in
    let h = c.requires.value_at_2 in
    let same : get_or s a.p 0 ≡ get_or t' a.q 0 = exact_unsigned _ _ (sym c.cmp-by_kind.ensures ∙ equal_of _ (sym c.is_ne.ensures ∙ c.if-is_ne.false)) in
    sym ((value_marker a.depth s t' a.p a.ea a.q a.eb g h same c.if-k-eq14.true))

pub compare_value-compare_leaf-requires-then-k-eq15 : goal.compare_value-compare_leaf-requires-then-k-eq15
compare_value-compare_leaf-requires-then-k-eq15 t c =
    let a = c.args in
    let s = a.a.now in
    let t' = a.b.now in
    let g = c.requires.value_at in
    let h = c.requires.value_at_2 in
    let same : get_or s a.p 0 ≡ get_or t' a.q 0 = exact_unsigned _ _ (sym c.cmp-by_kind.ensures ∙ equal_of _ (sym c.is_ne.ensures ∙ c.if-is_ne.false)) in
    let plain : OfScalar (get_or s a.p 0) = (λ j u z k. omega (arith, c.if-k-eq15.true)) in
    record { leaf = (scalar-at a.depth s a.p a.ea g plain).leaf; leaf_2 = (scalar-at a.depth t' a.q a.eb h (λ j u z k. plain j u z (same ∙ k))).leaf; p_value = same; x_le_p = c.requires.x_le_p; y_le_q = c.requires.y_le_q; a_value = c.requires.a_value }

pub compare_value-returns-then-k-eq15 : goal.compare_value-returns-then-k-eq15
compare_value-returns-then-k-eq15 t c =
    let a = c.args in
    let s = a.a.now in
    let t' = a.b.now in
    let g = c.requires.value_at in
    let h = c.requires.value_at_2 in
    let same : get_or s a.p 0 ≡ get_or t' a.q 0 = exact_unsigned _ _ (sym c.cmp-by_kind.ensures ∙ equal_of _ (sym c.is_ne.ensures ∙ c.if-is_ne.false)) in
    let plain : OfScalar (get_or s a.p 0) = (λ j u z k. omega (arith, c.if-k-eq15.true)) in
    c.compare_leaf-then-k-eq15.ensures ∙ sym ((value-scalar a.depth s t' a.p a.ea a.q a.eb g h same plain))

pub compare_value-overflow_add-i : goal.compare_value-overflow_add-i
compare_value-overflow_add-i t c =
    let a = c.args in
    let s = a.a.now in
    let t' = a.b.now in
    let g = c.requires.value_at in
    let h = c.requires.value_at_2 in
    let same : get_or s a.p 0 ≡ get_or t' a.q 0 = exact_unsigned _ _ (sym c.cmp-by_kind.ensures ∙ equal_of _ (sym c.is_ne.ensures ∙ c.if-is_ne.false)) in
    let ten : 10 ≤ get_or s a.p 0 = omega (arith, c.if-k-lt10.false) in
    let no = c.if-k-eq14.false in
    let nb = c.if-k-eq15.false in
    let w = header_room a.depth s a.p a.ea g ten no nb in
    let w' = header_room a.depth t' a.q a.eb h (omega arith) (λ z. no (same ∙ z)) (λ z. nb (same ∙ z)) in
    let r = g.room in
    let r' = h.room in
    omega arith

pub compare_value-overflow_add-j : goal.compare_value-overflow_add-j
compare_value-overflow_add-j t c =
    let a = c.args in
    let s = a.a.now in
    let t' = a.b.now in
    let g = c.requires.value_at in
    let h = c.requires.value_at_2 in
    let same : get_or s a.p 0 ≡ get_or t' a.q 0 = exact_unsigned _ _ (sym c.cmp-by_kind.ensures ∙ equal_of _ (sym c.is_ne.ensures ∙ c.if-is_ne.false)) in
    let ten : 10 ≤ get_or s a.p 0 = omega (arith, c.if-k-lt10.false) in
    let no = c.if-k-eq14.false in
    let nb = c.if-k-eq15.false in
    let w = header_room a.depth s a.p a.ea g ten no nb in
    let w' = header_room a.depth t' a.q a.eb h (omega arith) (λ z. no (same ∙ z)) (λ z. nb (same ∙ z)) in
    let r = g.room in
    let r' = h.room in
    omega arith

pub compare_value-overflow_add-p : goal.compare_value-overflow_add-p
compare_value-overflow_add-p t c =
    let a = c.args in
    let s = a.a.now in
    let t' = a.b.now in
    let g = c.requires.value_at in
    let h = c.requires.value_at_2 in
    let same : get_or s a.p 0 ≡ get_or t' a.q 0 = exact_unsigned _ _ (sym c.cmp-by_kind.ensures ∙ equal_of _ (sym c.is_ne.ensures ∙ c.if-is_ne.false)) in
    let ten : 10 ≤ get_or s a.p 0 = omega (arith, c.if-k-lt10.false) in
    let no = c.if-k-eq14.false in
    let nb = c.if-k-eq15.false in
    let w = header_room a.depth s a.p a.ea g ten no nb in
    let w' = header_room a.depth t' a.q a.eb h (omega arith) (λ z. no (same ∙ z)) (λ z. nb (same ∙ z)) in
    let r = g.room in
    let r' = h.room in
    omega arith

pub compare_value-u32_at-requires : goal.compare_value-u32_at-requires
compare_value-u32_at-requires t c =
    let a = c.args in
    let s = a.a.now in
    let t' = a.b.now in
    let g = c.requires.value_at in
    let h = c.requires.value_at_2 in
    let same : get_or s a.p 0 ≡ get_or t' a.q 0 = exact_unsigned _ _ (sym c.cmp-by_kind.ensures ∙ equal_of _ (sym c.is_ne.ensures ∙ c.if-is_ne.false)) in
    let ten : 10 ≤ get_or s a.p 0 = omega (arith, c.if-k-lt10.false) in
    let no = c.if-k-eq14.false in
    let nb = c.if-k-eq15.false in
    let w = header_room a.depth s a.p a.ea g ten no nb in
    let w' = header_room a.depth t' a.q a.eb h (omega arith) (λ z. no (same ∙ z)) (λ z. nb (same ∙ z)) in
    let r = g.room in
    let r' = h.room in
    omega arith

pub compare_value-overflow_add-va : goal.compare_value-overflow_add-va
compare_value-overflow_add-va t c =
    let a = c.args in
    let s = a.a.now in
    let t' = a.b.now in
    let g = c.requires.value_at in
    let h = c.requires.value_at_2 in
    let same : get_or s a.p 0 ≡ get_or t' a.q 0 = exact_unsigned _ _ (sym c.cmp-by_kind.ensures ∙ equal_of _ (sym c.is_ne.ensures ∙ c.if-is_ne.false)) in
    let ten : 10 ≤ get_or s a.p 0 = omega (arith, c.if-k-lt10.false) in
    let no = c.if-k-eq14.false in
    let nb = c.if-k-eq15.false in
    let w = header_room a.depth s a.p a.ea g ten no nb in
    let w' = header_room a.depth t' a.q a.eb h (omega arith) (λ z. no (same ∙ z)) (λ z. nb (same ∙ z)) in
    let r = g.room in
    let r' = h.room in
    let n = (container_at a.depth s a.p a.ea g ten no nb c.frame_of-f.result c.frame_of-f.ensures c.u32_at.result c.u32_at.ensures.0).within in
    omega arith

pub compare_value-overflow_add-q : goal.compare_value-overflow_add-q
compare_value-overflow_add-q t c =
    let a = c.args in
    let s = a.a.now in
    let t' = a.b.now in
    let g = c.requires.value_at in
    let h = c.requires.value_at_2 in
    let same : get_or s a.p 0 ≡ get_or t' a.q 0 = exact_unsigned _ _ (sym c.cmp-by_kind.ensures ∙ equal_of _ (sym c.is_ne.ensures ∙ c.if-is_ne.false)) in
    let ten : 10 ≤ get_or s a.p 0 = omega (arith, c.if-k-lt10.false) in
    let no = c.if-k-eq14.false in
    let nb = c.if-k-eq15.false in
    let w = header_room a.depth s a.p a.ea g ten no nb in
    let w' = header_room a.depth t' a.q a.eb h (omega arith) (λ z. no (same ∙ z)) (λ z. nb (same ∙ z)) in
    let r = g.room in
    let r' = h.room in
    omega arith

pub compare_value-u32_at-requires-2 : goal.compare_value-u32_at-requires-2
compare_value-u32_at-requires-2 t c =
    let a = c.args in
    let s = a.a.now in
    let t' = a.b.now in
    let g = c.requires.value_at in
    let h = c.requires.value_at_2 in
    let same : get_or s a.p 0 ≡ get_or t' a.q 0 = exact_unsigned _ _ (sym c.cmp-by_kind.ensures ∙ equal_of _ (sym c.is_ne.ensures ∙ c.if-is_ne.false)) in
    let ten : 10 ≤ get_or s a.p 0 = omega (arith, c.if-k-lt10.false) in
    let no = c.if-k-eq14.false in
    let nb = c.if-k-eq15.false in
    let w = header_room a.depth s a.p a.ea g ten no nb in
    let w' = header_room a.depth t' a.q a.eb h (omega arith) (λ z. no (same ∙ z)) (λ z. nb (same ∙ z)) in
    let r = g.room in
    let r' = h.room in
    omega arith

pub compare_value-overflow_add-vb : goal.compare_value-overflow_add-vb
compare_value-overflow_add-vb t c =
    let a = c.args in
    let s = a.a.now in
    let t' = a.b.now in
    let g = c.requires.value_at in
    let h = c.requires.value_at_2 in
    let same : get_or s a.p 0 ≡ get_or t' a.q 0 = exact_unsigned _ _ (sym c.cmp-by_kind.ensures ∙ equal_of _ (sym c.is_ne.ensures ∙ c.if-is_ne.false)) in
    let ten : 10 ≤ get_or s a.p 0 = omega (arith, c.if-k-lt10.false) in
    let no = c.if-k-eq14.false in
    let nb = c.if-k-eq15.false in
    let w = header_room a.depth s a.p a.ea g ten no nb in
    let w' = header_room a.depth t' a.q a.eb h (omega arith) (λ z. no (same ∙ z)) (λ z. nb (same ∙ z)) in
    let r = g.room in
    let r' = h.room in
    let n = (container_at a.depth t' a.q a.eb h (omega arith) (λ z. no (same ∙ z)) (λ z. nb (same ∙ z)) c.frame_of-f.result (c.frame_of-f.ensures ∙ ap frame_of same) c.u32_at-2.result c.u32_at-2.ensures.0).within in
    omega arith

pub compare_value-known_on-m-requires : goal.compare_value-known_on-m-requires
compare_value-known_on-m-requires t c =
    let a = c.args in
    let s = a.a.now in
    let t' = a.b.now in
    let g = c.requires.value_at in
    let h = c.requires.value_at_2 in
    let same : get_or s a.p 0 ≡ get_or t' a.q 0 = exact_unsigned _ _ (sym c.cmp-by_kind.ensures ∙ equal_of _ (sym c.is_ne.ensures ∙ c.if-is_ne.false)) in
    let ten : 10 ≤ get_or s a.p 0 = omega (arith, c.if-k-lt10.false) in
    let no = c.if-k-eq14.false in
    let nb = c.if-k-eq15.false in
    let w = header_room a.depth s a.p a.ea g ten no nb in
    let w' = header_room a.depth t' a.q a.eb h (omega arith) (λ z. no (same ∙ z)) (λ z. nb (same ∙ z)) in
    let r = g.room in
    let r' = h.room in
    let f = (container_at a.depth s a.p a.ea g ten no nb c.frame_of-f.result c.frame_of-f.ensures c.u32_at.result c.u32_at.ensures.0).body in
    let k = (container_at a.depth t' a.q a.eb h (omega arith) (λ z. no (same ∙ z)) (λ z. nb (same ∙ z)) c.frame_of-f.result (c.frame_of-f.ensures ∙ ap frame_of same) c.u32_at-2.result c.u32_at-2.ensures.0).body in
    record { i_le_ea = f.within; ea_in_bounds = f.room; j_le_eb = k.within; eb_in_bounds = k.room; x_le_i = omega (arith, c.requires.x_le_p); y_le_j = omega (arith, c.requires.y_le_q); a_value = c.requires.a_value }

pub compare_value-compare_nodes-requires : goal.compare_value-compare_nodes-requires
compare_value-compare_nodes-requires t c =
    let a = c.args in
    let s = a.a.now in
    let t' = a.b.now in
    let g = c.requires.value_at in
    let h = c.requires.value_at_2 in
    let same : get_or s a.p 0 ≡ get_or t' a.q 0 = exact_unsigned _ _ (sym c.cmp-by_kind.ensures ∙ equal_of _ (sym c.is_ne.ensures ∙ c.if-is_ne.false)) in
    let ten : 10 ≤ get_or s a.p 0 = omega (arith, c.if-k-lt10.false) in
    let no = c.if-k-eq14.false in
    let nb = c.if-k-eq15.false in
    let w = header_room a.depth s a.p a.ea g ten no nb in
    let w' = header_room a.depth t' a.q a.eb h (omega arith) (λ z. no (same ∙ z)) (λ z. nb (same ∙ z)) in
    let r = g.room in
    let r' = h.room in
    let m = c.decreases in
    (omega arith, ((container_at a.depth s a.p a.ea g ten no nb c.frame_of-f.result c.frame_of-f.ensures c.u32_at.result c.u32_at.ensures.0).body, ((container_at a.depth t' a.q a.eb h (omega arith) (λ z. no (same ∙ z)) (λ z. nb (same ∙ z)) c.frame_of-f.result (c.frame_of-f.ensures ∙ ap frame_of same) c.u32_at-2.result c.u32_at-2.ensures.0).body, c.known_on-m.ensures)))

pub compare_value-returns : goal.compare_value-returns
compare_value-returns t c =
    let a = c.args in
    let s = a.a.now in
    let t' = a.b.now in
    let g = c.requires.value_at in
    let h = c.requires.value_at_2 in
    let same : get_or s a.p 0 ≡ get_or t' a.q 0 = exact_unsigned _ _ (sym c.cmp-by_kind.ensures ∙ equal_of _ (sym c.is_ne.ensures ∙ c.if-is_ne.false)) in
    let ten : 10 ≤ get_or s a.p 0 = omega (arith, c.if-k-lt10.false) in
    let no = c.if-k-eq14.false in
    let nb = c.if-k-eq15.false in
    let w = header_room a.depth s a.p a.ea g ten no nb in
    let w' = header_room a.depth t' a.q a.eb h (omega arith) (λ z. no (same ∙ z)) (λ z. nb (same ∙ z)) in
    let r = g.room in
    let r' = h.room in
    c.compare_nodes.ensures ∙ sym ((value_container a.depth s t' a.p a.ea a.q a.eb g h same ten no nb c.frame_of-f.result c.frame_of-f.ensures c.u32_at.result c.u32_at-2.result c.u32_at.ensures.0 c.u32_at-2.ensures.0))
