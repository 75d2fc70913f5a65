-- `field_index::fields::struct_end` meets its contract. Assumes nothing.
-- the struct is looked for among the nodes from a place to a place, with which nothing is wrong
use Prim.Native.Nat.{ℕ, ◌+◌, ◌-◌, ◌<◌, ◌≤◌}
use mathlib.Core.Path.{◌≡◌, refl, sym, ap, subst, ◌∙◌}
use mathlib.Core.List.{List}
use mathlib.Core.Option.{none, some}
use native.Mathlib.Omega.{arith}
use borrow.Author.Tests.{eqb-true, eq-eqb}
use mathlib.Core.Bool.{Bool, true, false}
use lib.Dec.{eqb}
use Rattle.output.specs.Logic.{if}
use Rattle.output.proofs.Bools.{never}
use lib.ListN.{length, get_or}
use Rattle.tape.specs.Bytes.{part}
use Rattle.tape.specs.Tree.{Nodes}
use Rattle.tape.specs.Tape.{kind, Walked, walk}
use Rattle.tape.specs.Steps.{size_at}
use Rattle.tape.specs.CheckSteps.{frame_of}
use Rattle.tape.specs.Fine.{Bytes}
use Rattle.tape.specs.declared.Frame.{Frame}
use Rattle.tape.specs.declared.Frame.TheVariants.{Top, Struct}
use Rattle.tape.proofs.Parts.{part_length, part-first}
use Rattle.tape.proofs.Walking.{walk_end, verdict-told}
use Rattle.tape.proofs.Verdicts.{nodes_walked, fine_walked}
use Rattle.field_index.specs.Structs.{structs, stands_at, struct_at}
use Rattle.field_index.specs.IndexSteps.{children_in, EndsAt}
use Rattle.field_index.proofs.StructLaws.{value, next, turning, size_there, passed, in_low, in_high, room, fine, here, in_body}
use Rattle.field_index.proofs.fields.struct_end.Invariants.{Seeking}
use Rattle.field_index.proofs.fields.struct_end.Goals as goal

-- what is said of places and a frame, of those that are equal to them
along : (P : ℕ → ℕ → Frame → Type 0) {a a' c c' : ℕ} {j j' : Frame} → a ≡ a' → c ≡ c' → j ≡ j' → P a c j → P a' c' j'
along P {a} {a'} {c} {c'} {j} {j'} p q r x = subst (λ (i : Frame). P a' c' i) r (subst (λ (i : ℕ). P a' i j) q (subst (λ (i : ℕ). P i c j) p x))

-- at the start, among all nodes; at the end, among none
start : (t : List ℕ) (at : ℕ) → struct_at t at ≡ stands_at at (structs 0 (walk 65 Top (part t 0 (length t - 8))).0)
unfolding struct_at
start t at = ap (λ (ns : Nodes). stands_at at (structs 0 ns)) (sym (nodes_walked t))

over : (t : List ℕ) (at from e : ℕ) (k : Frame) → Seeking t at from e k → e ≤ from → struct_at t at ≡ none
unfolding structs stands_at
over t at from e k s h = s.told ∙ ap (λ (w : Walked). stands_at at (structs from w.0)) (walk_end k 65 (part t from e) (λ y. omega arith) (let n = part_length t from e s.inside in omega arith))

sought-yes : (k p at : ℕ) → if (eqb k 12) (eqb p at) false ≡ true → (k ≡ 12) × (p ≡ at)
sought-yes k p at e = go (eqb k 12) (eqb p at) refl refl e
  where
    go : (x y : Bool) → eqb k 12 ≡ x → eqb p at ≡ y → if x y false ≡ true → (k ≡ 12) × (p ≡ at)
    go true y q r z = (eqb-true k 12 q, eqb-true p at (r ∙ z))
    go false y q r z = never (sym z)

sought_no : (k p at : ℕ) → if (eqb k 12) (eqb p at) false ≡ false → p ≡ at → k ≡ 12 → ⊥
sought_no k p at e q r = never (rw (eq-eqb k 12 r, eq-eqb p at q) at e)

-- one turn: the value of the child at `from` stands at v and takes n bytes
module _ (t : List ℕ) (at from e : ℕ) (k : Frame) (s : Seeking t at from e k) (b : Bytes t) (h : from < e) (v n : ℕ) (p : v ≡ value k t from e b h s.inside s.fine) (q : n ≡ size_at (part t v e)) where
  abbrev u : ℕ
  u = value k t from e b h s.inside s.fine

  abbrev w : ℕ
  w = next k t from e b h s.inside s.fine

  stop : v + n ≡ w
  stop = ap (λ (m : ℕ). v + m) q ∙ ap (λ (x : ℕ). x + size_at (part t x e)) p

  there : 0 < size_at (part t u e)
  there = size_there k t from e b h s.inside s.fine

  onward : (from < v + n) × (v + n ≤ e) × (v < v + n)
  onward =
      let r = turning k t from e b h s.inside s.fine in
      let f = r.forth in
      let g = r.behind in
      let j = stop in
      let z = there in
      (omega arith, omega arith, omega arith)

  asked : (v ≤ e) × ((e ≤ length t) × (0 < size_at (part t v e)))
  asked = (let o = onward in omega arith, (s.inside, subst (λ (x : ℕ). 0 < size_at (part t x e)) (sym p) there))

  byte_is : kind (part t u e) ≡ get_or t v 0
  byte_is = part-first t u e (let o = onward in let y = stop in omega arith) ∙ ap (λ (x : ℕ). get_or t x 0) (sym p)

  passes : v + n ≤ at → Seeking t at (v + n) e k
  passes g = record {
    ordered = onward.1;
    inside = s.inside;
    fine = rw stop (turning k t from e b h s.inside s.fine).fine;
    told = s.told ∙ passed k t from e b h s.inside s.fine at (let y = stop in omega arith) ∙ ap (λ (x : ℕ). stands_at at (structs x (walk 65 k (part t x e)).0)) (sym stop);
  }

  module _ (g : at < v + n) where
    before-next : at < w
    before-next = let y = stop in omega arith

    low : get_or t v 0 < 10 → struct_at t at ≡ none
    low c = s.told ∙ in_low k t from e b h s.inside s.fine at before-next (let y = byte_is in omega arith)

    high : 12 < get_or t v 0 → struct_at t at ≡ none
    high c = s.told ∙ in_high k t from e b h s.inside s.fine at before-next (let y = byte_is in omega arith)

    module _ (l : 10 ≤ get_or t v 0) (m : get_or t v 0 ≤ 12) where
      low-kind : 10 ≤ kind (part t u e)
      low-kind = let y = byte_is in omega arith

      high_kind : kind (part t u e) ≤ 12
      high_kind = let y = byte_is in omega arith

      room_there : v + 5 ≤ v + n
      room_there = let r = room k t from e b h s.inside s.fine low-kind high_kind in let y = stop in omega arith

      finds : get_or t v 0 ≡ 12 → v ≡ at → EndsAt t at (v + n)
      unfolding frame_of
      finds c d =
          let o = onward in
          let twelve : kind (part t u e) ≡ 12 = byte_is ∙ c in
          let y : u ≡ at = sym p ∙ d in
          let f : frame_of (kind (part t u e)) ≡ Struct = ap frame_of twelve in
          record {
            found = s.told ∙ here k t from e b h s.inside s.fine low-kind high_kind at before-next y twelve ∙ ap (λ (x : ℕ). some (children_in t (at + 5) x)) (sym stop);
            body = record {
              bytes = b;
              ordered = let r = room_there in omega arith;
              inside = let i = s.inside in omega arith;
              fine = subst (λ (x : ℕ). (walk 65 Struct (part t (at + 5) x)).1 ≡ 0) (sym stop) (subst (λ (x : ℕ). (walk 65 Struct (part t (x + 5) w)).1 ≡ 0) y (subst (λ (j : Frame). (walk 65 j (part t (u + 5) w)).1 ≡ 0) f (fine k t from e b h s.inside s.fine low-kind high_kind)));
            };
          }

      opens : (v ≡ at → get_or t v 0 ≡ 12 → ⊥) → Seeking t at (v + 5) (v + n) (frame_of (get_or t v 0))
      opens c =
          let o = onward in
          let f : frame_of (kind (part t u e)) ≡ frame_of (get_or t v 0) = ap frame_of byte_is in
          record {
            ordered = room_there;
            inside = let i = s.inside in omega arith;
            fine = along (λ x y j. (walk 65 j (part t (x + 5) y)).1 ≡ 0) (sym p) (sym stop) f (fine k t from e b h s.inside s.fine low-kind high_kind);
            told = s.told ∙ along (λ x y j. stands_at at (structs from (walk 65 k (part t from e)).0) ≡ stands_at at (structs (x + 5) (walk 65 j (part t (x + 5) y)).0)) (sym p) (sym stop) f (in_body k t from e b h s.inside s.fine low-kind high_kind at before-next (λ y z. c (p ∙ y) (sym byte_is ∙ z)));
          }

pub overflow_sub-end : goal.overflow_sub-end
overflow_sub-end c =
    let a = verdict-told c.args.tape.now c.requires in
    let g = a.least in
    omega arith

pub loop-from-init : goal.loop-from-init
loop-from-init c =
    let t = c.args.tape.now in
    record { ordered = omega arith; inside = omega arith; fine = fine_walked t c.requires; told = start t c.args.at }

pub value_size-requires : goal.value_size-requires
value_size-requires c =
    let l = c.loop-from in
    let a = c.args in
    let t = a.tape.now in
    let b : Bytes t = λ i. (c.type_inv.tape i).fits in
    let h = c.loop-from-test.true in
    let q = asked t a.at l.from l.end l.frame l.invariant b h _ _ c.value_place-inner.ensures refl in
    record { at_le_end = q.0; end_in_bounds = q.1.0; nonzero = q.1.1 }

pub overflow_add-next : goal.overflow_add-next
overflow_add-next c =
    let l = c.loop-from in
    let a = c.args in
    let t = a.tape.now in
    let b : Bytes t = λ i. (c.type_inv.tape i).fits in
    let h = c.loop-from-test.true in
    let o = onward t a.at l.from l.end l.frame l.invariant b h _ _ c.value_place-inner.ensures c.value_size.ensures in
    omega arith

pub loop-from-smaller-then-next-at : goal.loop-from-smaller-then-next-at
loop-from-smaller-then-next-at c =
    let l = c.loop-from in
    let a = c.args in
    let t = a.tape.now in
    let b : Bytes t = λ i. (c.type_inv.tape i).fits in
    let h = c.loop-from-test.true in
    let o = onward t a.at l.from l.end l.frame l.invariant b h _ _ c.value_place-inner.ensures c.value_size.ensures in
    omega arith

pub loop-from-preserved-then-next-at : goal.loop-from-preserved-then-next-at
loop-from-preserved-then-next-at c =
    let l = c.loop-from in
    let a = c.args in
    let t = a.tape.now in
    let b : Bytes t = λ i. (c.type_inv.tape i).fits in
    let h = c.loop-from-test.true in
    passes t a.at l.from l.end l.frame l.invariant b h _ _ c.value_place-inner.ensures c.value_size.ensures c.if-next-at.true

pub bounds-tape-inner : goal.bounds-tape-inner
bounds-tape-inner c =
    let l = c.loop-from in
    let a = c.args in
    let t = a.tape.now in
    let b : Bytes t = λ i. (c.type_inv.tape i).fits in
    let h = c.loop-from-test.true in
    let o = onward t a.at l.from l.end l.frame l.invariant b h _ _ c.value_place-inner.ensures c.value_size.ensures in
    let i = l.invariant.inside in
    omega arith

pub returns-then-k-lt10 : goal.returns-then-k-lt10
returns-then-k-lt10 c =
    let l = c.loop-from in
    let a = c.args in
    let t = a.tape.now in
    let b : Bytes t = λ i. (c.type_inv.tape i).fits in
    let h = c.loop-from-test.true in
    low t a.at l.from l.end l.frame l.invariant b h _ _ c.value_place-inner.ensures c.value_size.ensures (omega arith) c.if-k-lt10.true

pub returns-then-k-gt12 : goal.returns-then-k-gt12
returns-then-k-gt12 c =
    let l = c.loop-from in
    let a = c.args in
    let t = a.tape.now in
    let b : Bytes t = λ i. (c.type_inv.tape i).fits in
    let h = c.loop-from-test.true in
    high t a.at l.from l.end l.frame l.invariant b h _ _ c.value_place-inner.ensures c.value_size.ensures (omega arith) c.if-k-gt12.true

pub returns-then-is_sought : goal.returns-then-is_sought
returns-then-is_sought c =
    let l = c.loop-from in
    let a = c.args in
    let t = a.tape.now in
    let b : Bytes t = λ i. (c.type_inv.tape i).fits in
    let h = c.loop-from-test.true in
    let y = sought-yes _ _ _ (sym c.is_sought.ensures ∙ c.if-is_sought.true) in
    finds t a.at l.from l.end l.frame l.invariant b h _ _ c.value_place-inner.ensures c.value_size.ensures (omega arith) (omega arith) (omega arith) y.0 y.1

pub overflow_add-from : goal.overflow_add-from
overflow_add-from c =
    let l = c.loop-from in
    let a = c.args in
    let t = a.tape.now in
    let b : Bytes t = λ i. (c.type_inv.tape i).fits in
    let h = c.loop-from-test.true in
    let o = onward t a.at l.from l.end l.frame l.invariant b h _ _ c.value_place-inner.ensures c.value_size.ensures in
    let r = room_there t a.at l.from l.end l.frame l.invariant b h _ _ c.value_place-inner.ensures c.value_size.ensures (omega arith) (omega arith) (omega arith) in
    omega arith

pub loop-from-smaller : goal.loop-from-smaller
loop-from-smaller c =
    let l = c.loop-from in
    let a = c.args in
    let t = a.tape.now in
    let b : Bytes t = λ i. (c.type_inv.tape i).fits in
    let h = c.loop-from-test.true in
    let o = onward t a.at l.from l.end l.frame l.invariant b h _ _ c.value_place-inner.ensures c.value_size.ensures in
    let r = room_there t a.at l.from l.end l.frame l.invariant b h _ _ c.value_place-inner.ensures c.value_size.ensures (omega arith) (omega arith) (omega arith) in
    omega arith

pub loop-from-preserved : goal.loop-from-preserved
loop-from-preserved c =
    let l = c.loop-from in
    let a = c.args in
    let t = a.tape.now in
    let b : Bytes t = λ i. (c.type_inv.tape i).fits in
    let h = c.loop-from-test.true in
    rw c.frame_of-frame.ensures (opens t a.at l.from l.end l.frame l.invariant b h _ _ c.value_place-inner.ensures c.value_size.ensures (omega arith) (omega arith) (omega arith) (sought_no _ _ _ (sym c.is_sought.ensures ∙ c.if-is_sought.false)))

pub returns : goal.returns
returns c =
    let l = c.loop-from in
    let a = c.args in
    over a.tape.now a.at l.from l.end l.frame l.invariant c.loop-from-test.false
