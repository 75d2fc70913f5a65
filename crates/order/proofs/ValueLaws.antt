-- Values at a place, and two bodies a turn at a time. Assumes nothing.
use Rattle.std.specs.Ordering.{nat_cmp, ordering_then, is_ne}
use Rattle.std.specs.Cmp.Lexicographic.{slice_cmp}
use Prim.Native.Nat.{ℕ, ◌+◌, ◌-◌, ◌<◌, ◌≤◌}
use mathlib.Core.Path.{◌≡◌, refl, sym, ap, ◌∙◌}
use mathlib.Core.List.{List}
use mathlib.Core.Bool.{Bool, true, false}
use mathlib.Core.Option.{Option}
use native.Mathlib.Omega.{arith}
use native.Mathlib.Decide.{dec_le, ℕ_discrete}
use borrow.Author.Tests.{eqb-true, eqb-false}
use lib.Dec.{eqb}
use lib.ListN.{get_or, take, drop}
use Rattle.output.specs.Logic.{if}
use Rattle.text_rules.specs.Text.{Sym}
use Rattle.tape.specs.Bytes.{part}
use Rattle.tape.specs.Tree.{Scalar, Node, null, scalar, nest, marker, more, tag}
use Rattle.tape.specs.Tape.{reading, kind, length_of, name_of, head_of, scalar_of, absent, leaf, value_of, walk}
use Rattle.tape.specs.Steps.{head_at, size_taken, problem_is, node_at, size_at, problem_at}
use Rattle.tape.specs.CheckSteps.{frame_of}
use Rattle.tape.specs.declared.Frame.{Frame}
use Rattle.tape.proofs.Parts.{part_length, part-first, part-number, part-inner}
use Rattle.tape.proofs.Walking.{walk_end}
use Rattle.tape.proofs.CodeReading.{scalar-other, value-scalar as value-other}
use Rattle.std.specs.declared.cmp.Ordering.{Ordering}
use Rattle.std.specs.declared.cmp.Ordering.TheVariants.{Less, Equal, Greater}
use Rattle.order.specs.Order.{options, scalars, syms, kind_of, kind_behind, contents, nodes}
use Rattle.order.specs.Steps.{scalar_in, Leaf, number_at, notes_count, notes_start, Headed, fronts, ValueAt, Body, valued}
use Rattle.order.proofs.Combine.{equal_is}
use Rattle.order.proofs.CodeLaws.{decided, passed}
use Rattle.order.proofs.Leaves.{kind_key}
use Rattle.order.proofs.HeadLaws.{notes_here, NotesHere, head_parts, HeadHere, symbols_turn, symbols_none}
use Rattle.tape.proofs.Turning.{OpenHere, some_here, size-some, scalar_here, marker_node, marker_size, open_here, head_here, turn_here, OfScalar}

-- ---- a value

pub record ScalarAt (d : ℕ) (s : List ℕ) (at e : ℕ) : Type 0 where
  pub leaf : Leaf s at e
  pub node : node_at d (part s at e) ≡ scalar (scalar_in (part s at e))
  pub size : size_at (part s at e) ≡ size_taken (scalar_of (part s at e))

pub record ContainerAt (d : ℕ) (s : List ℕ) (at e : ℕ) (f : Frame) (n : ℕ) : Type 0 where
  pub body : Body d f s (at + 5) (at + 5 + n)
  pub node : node_at d (part s at e) ≡ nest f (walk d f (part s (at + 5) (at + 5 + n))).0
  pub size : size_at (part s at e) ≡ 5 + n
  pub within : at + 5 + n ≤ e

frame-tag : (k : ℕ) → 10 ≤ k → k ≤ 12 → tag (frame_of k) ≡ k
unfolding frame_of
frame-tag k h i = go (eqb k 10) (eqb k 11) refl refl
  where
    go : (t u : Bool) → eqb k 10 ≡ t → eqb k 11 ≡ u → tag (if t Rattle.tape.specs.declared.Frame.TheVariants.List (if u Rattle.tape.specs.declared.Frame.TheVariants.Sexp Rattle.tape.specs.declared.Frame.TheVariants.Struct)) ≡ k
    go true u p q = sym (eqb-true k 10 p)
    go false true p q = sym (eqb-true k 11 q)
    go false false p q =
        let x : (k ≡ 10 → ⊥) = eqb-false k 10 p in
        let y : (k ≡ 11 → ⊥) = eqb-false k 11 q in
        by x y (dec_le k 10) (dec_le k 11)
      where
        by : (k ≡ 10 → ⊥) → (k ≡ 11 → ⊥) → Dec (k ≤ 10) → Dec (k ≤ 11) → 12 ≡ k
        by x y (yes a) b = absurd (x (omega arith))
        by x y (no a) (yes b) = absurd (y (omega arith))
        by x y (no a) (no b) = omega arith

module _ (d : ℕ) (s : List ℕ) (at e : ℕ) (g : ValueAt d s at e) where
  abbrev l : List ℕ
  l = part s at e

  pub value-place : at < e
  value-place = let h = some_here d l g.fine in let n = part_length s at e g.room in omega arith

  value-first : kind l ≡ get_or s at 0
  value-first = part-first s at e value-place

  pub scalar-at : OfScalar (get_or s at 0) → ScalarAt d s at e
  unfolding scalar_in
  scalar-at h =
      let k = value-first in
      let r = scalar_here d l g.fine (λ j a b q. h j a b (sym k ∙ q)) in
      let t : size_taken (scalar_of l) ≡ r.count = ap (λ (o : Option (Scalar × ℕ)). size_taken o) r.read in
      let z = size-some d l g.fine in
      let y = r.size in
      record {
        leaf = record { within = g.within; room = g.room; some = omega arith };
        node = r.node ∙ ap scalar (sym (ap (λ (o : Option (Scalar × ℕ)). reading o (null 0) (λ s n. s)) r.read));
        size = r.size ∙ sym t;
      }

  pub marker_at : get_or s at 0 ≡ 14 → (node_at d l ≡ marker) × (size_at l ≡ 1)
  marker_at h = (marker_node d l g.fine (value-first ∙ h), marker_size d l g.fine (value-first ∙ h))

  module _ (h : 10 ≤ get_or s at 0) (m : get_or s at 0 ≡ 14 → ⊥) (b : get_or s at 0 ≡ 15 → ⊥) where
    opened : OpenHere d (frame_of (kind l)) l
    opened = let k = value-first in open_here d l g.fine (omega arith) (λ e. m (sym k ∙ e)) (λ e. b (sym k ∙ e))

    pub header_room : at + 5 ≤ e
    header_room = let r = opened.room in let n = part_length s at e g.room in omega arith

    length_here : length_of l ≡ number_at s at 4 1
    length_here = let r = header_room in part-number s at e 4 1 (omega arith)

    -- no value has the kind 13, or one over 15
    kind_most : get_or s at 0 ≤ 12
    unfolding problem_at
    kind_most = go (dec_le (get_or s at 0) 12)
      where
        go : Dec (get_or s at 0 ≤ 12) → get_or s at 0 ≤ 12
        go (yes a) = a
        go (no a) =
            let k = value-first in
            let none_there : value_of true l ≡ absent =
            value-other true l (λ e. omega arith) (λ e. omega arith) (λ e. omega arith) (λ e. m (sym k ∙ e))
            ∙ ap (λ (o : Option (Scalar × ℕ)). reading o absent (λ s n. leaf (scalar s) n)) (scalar-other l (omega arith) (λ e. omega arith) (λ e. omega arith) (λ e. b (sym k ∙ e))) in
            let y : problem_at d l ≡ 2 = ap (problem_is d l) none_there in
            let z = g.fine in
            absurd (omega arith)

    pub container_at : (f : Frame) → f ≡ frame_of (get_or s at 0) → (n : ℕ) → n ≡ number_at s at 4 1 → ContainerAt d s at e f n
    container_at f i n j =
        let o = opened in
        let r = o.room in
        let len = part_length s at e g.room in
        let q : length_of l ≡ n = length_here ∙ sym j in
        let k : frame_of (kind l) ≡ f = ap frame_of value-first ∙ sym i in
        let inner : take (length_of l) (drop 5 l) ≡ part s (at + 5) (at + 5 + n) = ap (λ (x : ℕ). take x (drop 5 l)) q ∙ part-inner s at e 5 n (omega arith) in
        let room = g.room in
        record {
          body = record { within = omega arith; room = omega arith; fine = ap (λ (x : Frame). (walk d x (part s (at + 5) (at + 5 + n))).1) (sym k) ∙ ap (λ (y : List ℕ). (walk d (frame_of (kind l)) y).1) (sym inner) ∙ o.fine };
          node = o.node ∙ ap (λ (y : List ℕ). nest (frame_of (kind l)) (walk d (frame_of (kind l)) y).0) inner ∙ ap (λ (x : Frame). nest x (walk d x (part s (at + 5) (at + 5 + n))).0) k;
          size = o.size ∙ ap (λ (x : ℕ). 5 + x) q;
          within = omega arith;
        }

  -- the kind number of the node is the kind byte
  pub kind-node : kind_of (node_at d l) ≡ get_or s at 0
  kind-node = go (dec_le (get_or s at 0) 9) (ℕ_discrete (get_or s at 0) 14) (ℕ_discrete (get_or s at 0) 15)
    where
      plain : OfScalar (get_or s at 0) → kind_of (node_at d l) ≡ get_or s at 0
      plain h = let x = scalar-at h in ap kind_of x.node ∙ kind_key s at e x.leaf

      go : Dec (get_or s at 0 ≤ 9) → Dec (get_or s at 0 ≡ 14) → Dec (get_or s at 0 ≡ 15) → kind_of (node_at d l) ≡ get_or s at 0
      go (yes h) b c = plain (λ j a z q. omega arith)
      go (no h) (yes m) c = ap kind_of (marker_at m).0 ∙ sym m
      go (no h) (no m) (yes b) = plain (λ j a z q. omega arith)
      go (no h) (no m) (no b) =
          ap kind_of (container_at (omega arith) m b (frame_of (get_or s at 0)) refl (number_at s at 4 1) refl).node ∙ frame-tag (get_or s at 0) (omega arith) (kind_most (omega arith) m b)

-- ---- two values

module _ (d : ℕ) (s t : List ℕ) (p e q f : ℕ) (g : ValueAt d s p e) (h : ValueAt d t q f) where
  abbrev x : Node
  x = node_at d (part s p e)

  abbrev y : Node
  y = node_at d (part t q f)

  -- kinds that differ decide
  pub value_kind : (w : Ordering) → w ≡ nat_cmp (get_or s p 0) (get_or t q 0) → is_ne w ≡ true → w ≡ valued x y
  unfolding valued
  value_kind w i n =
      let a = kind-node d s p e g in
      let b = kind-node d t q f h in
      decided (nat_cmp (kind_of x) (kind_of y)) (contents x y) w (i ∙ ap (λ (k : ℕ). nat_cmp k (get_or t q 0)) (sym a) ∙ ap (nat_cmp (kind_of x)) (sym b)) n

  value_same : get_or s p 0 ≡ get_or t q 0 → valued x y ≡ contents x y
  unfolding valued
  value_same i = let a = kind-node d s p e g in let b = kind-node d t q f h in rw (equal_is (kind_of x) (kind_of y) (omega arith))

  pub value-scalar : get_or s p 0 ≡ get_or t q 0 → OfScalar (get_or s p 0) → valued x y ≡ scalars (scalar_in (part s p e)) (scalar_in (part t q f))
  unfolding contents
  value-scalar i j = value_same i ∙ ap (λ (z : Node). contents z y) (scalar-at d s p e g j).node ∙ ap (contents (scalar (scalar_in (part s p e)))) (scalar-at d t q f h (λ k a b z. j k a b (i ∙ z))).node

  pub value_marker : get_or s p 0 ≡ get_or t q 0 → get_or s p 0 ≡ 14 → valued x y ≡ Equal
  unfolding contents
  value_marker i j = value_same i ∙ ap (λ (z : Node). contents z y) (marker_at d s p e g j).0 ∙ ap (contents marker) (marker_at d t q f h (sym i ∙ j)).0

  pub value_container : get_or s p 0 ≡ get_or t q 0 → 10 ≤ get_or s p 0 → (get_or s p 0 ≡ 14 → ⊥) → (get_or s p 0 ≡ 15 → ⊥) → (k : Frame) → k ≡ frame_of (get_or s p 0) → (n m : ℕ) → n ≡ number_at s p 4 1 → m ≡ number_at t q 4 1
      → valued x y ≡ nodes (walk d k (part s (p + 5) (p + 5 + n))).0 (walk d k (part t (q + 5) (q + 5 + m))).0
  unfolding contents
  value_container i a b c k z n m u v =
      value_same i
      ∙ ap (λ (w : Node). contents w y) (container_at d s p e g a b c k z n u).node
      ∙ ap (contents (nest k (walk d k (part s (p + 5) (p + 5 + n))).0)) (container_at d t q f h (omega arith) (λ w. b (i ∙ w)) (λ w. c (i ∙ w)) k (z ∙ ap frame_of i) m v).node

-- ---- a turn of two bodies

assoc : (a b c v : Ordering) → ordering_then (ordering_then a (ordering_then b c)) v ≡ ordering_then a (ordering_then b (ordering_then c v))
assoc Less b c v = refl
assoc Equal Less c v = refl
assoc Equal Equal c v = refl
assoc Equal Greater c v = refl
assoc Greater b c v = refl

-- a child: what stands at its place
pub record ChildHere (d : ℕ) (k : Frame) (s : List ℕ) (at e : ℕ) : Type 0 where
  pub headed : Headed k s at e
  pub value : ValueAt (d - 1) s (at + size_taken (head_of k (part s at e))) e
  pub nodes : (walk d k (part s at e)).0 ≡ more (head_at k (part s at e)) (node_at (d - 1) (part s (at + size_taken (head_of k (part s at e))) e)) (walk d k (part s (at + size_taken (head_of k (part s at e)) + size_at (part s (at + size_taken (head_of k (part s at e))) e)) e)).0
  pub next : Body d k s (at + size_taken (head_of k (part s at e)) + size_at (part s (at + size_taken (head_of k (part s at e))) e)) e
  pub forth : at < at + size_taken (head_of k (part s at e)) + size_at (part s (at + size_taken (head_of k (part s at e))) e)
  -- the byte behind the name
  pub byte : get_or s (at + size_taken (name_of k (part s at e))) 0 ≡ kind_behind (head_at k (part s at e)).1 (node_at (d - 1) (part s (at + size_taken (head_of k (part s at e))) e))

pub child_here : (d : ℕ) (k : Frame) (s : List ℕ) (at e : ℕ) → (d ≡ 0 → ⊥) → at < e → Body d k s at e → ChildHere d k s at e
unfolding notes_count notes_start
child_here d k s at e nz h g =
    let u = turn_here d k s at e nz h g.room g.fine in
    let v : ValueAt (d - 1) s (at + size_taken (head_of k (part s at e))) e = record { within = u.within; room = g.room; fine = u.value } in
    let p = value-place (d - 1) s (at + size_taken (head_of k (part s at e))) e v in
    let hd : Headed k s at e = record { within = p; room = g.room; read = head_here d k s at e nz h g.room g.fine } in
    let parts = head_parts k s at e hd in
    let n = notes_here s (at + size_taken (name_of k (part s at e))) e parts.notes in
    record {
      headed = hd;
      value = v;
      nodes = u.nodes;
      next = record { within = u.behind; room = g.room; fine = u.fine };
      forth = u.forth;
      byte = by (eqb (get_or s (at + size_taken (name_of k (part s at e))) 0) 13) refl parts n v;
    }
  where
    P : ℕ
    P = at + size_taken (name_of k (part s at e))

    Q : ℕ
    Q = at + size_taken (head_of k (part s at e))

    by : (b : Bool) → eqb (get_or s P 0) 13 ≡ b → HeadHere k s at e → NotesHere s P e → ValueAt (d - 1) s Q e → get_or s P 0 ≡ kind_behind (head_at k (part s at e)).1 (node_at (d - 1) (part s Q e))
    by true q parts n v =
        let t = eqb-true (get_or s P 0) 13 q in
        let m = n.marked t in
        let w = symbols_turn (notes_count s P) s (notes_start s P) e n.symbols m.0 in
        t ∙ sym (ap (λ (ss : List Sym). kind_behind ss (node_at (d - 1) (part s Q e))) (sym parts.list ∙ sym n.notes ∙ w.all))
    by false q parts n v =
        let t : (get_or s P 0 ≡ 13 → ⊥) = eqb-false (get_or s P 0) 13 q in
        let c : notes_count s P ≡ 0 = count q in
        let st : notes_start s P ≡ P = start q in
        let z = symbols_none (notes_count s P) (part s (notes_start s P) e) c in
        let z1 = z.1 in
        let en = n.ends in
        let ep = parts.ends in
        let same : P ≡ Q = omega arith in
        sym (kind-node (d - 1) s Q e v ∙ ap (λ (i : ℕ). get_or s i 0) (sym same)) ∙ sym (ap (λ (ss : List Sym). kind_behind ss (node_at (d - 1) (part s Q e))) (sym parts.list ∙ sym n.notes ∙ z.0))
      where
        count : eqb (get_or s P 0) 13 ≡ false → notes_count s P ≡ 0
        count q = rw q refl

        start : eqb (get_or s P 0) 13 ≡ false → notes_start s P ≡ P
        start q = rw q refl

module _ (d : ℕ) (k : Frame) (s t : List ℕ) (i e j f : ℕ) (nz : d ≡ 0 → ⊥) (g : Body d k s i e) (h : Body d k t j f) where
  pub nodes_longer : i < e → f ≤ j → nodes (walk d k (part s i e)).0 (walk d k (part t j f)).0 ≡ Greater
  unfolding nodes
  nodes_longer a b =
      let n = part_length t j f h.room in
      rw ((child_here d k s i e nz a g).nodes, walk_end k d (part t j f) nz (omega arith))

  pub nodes_shorter : e ≤ i → j < f → nodes (walk d k (part s i e)).0 (walk d k (part t j f)).0 ≡ Less
  unfolding nodes
  nodes_shorter a b =
      let n = part_length s i e g.room in
      rw ((child_here d k t j f nz b h).nodes, walk_end k d (part s i e) nz (omega arith))

  pub nodes_ended : e ≤ i → f ≤ j → nodes (walk d k (part s i e)).0 (walk d k (part t j f)).0 ≡ Equal
  unfolding nodes
  nodes_ended a b =
      let n = part_length s i e g.room in
      let m = part_length t j f h.room in
      rw (walk_end k d (part s i e) nz (omega arith), walk_end k d (part t j f) nz (omega arith))

  abbrev P : ℕ
  P = i + size_taken (head_of k (part s i e))

  abbrev Q : ℕ
  Q = j + size_taken (head_of k (part t j f))

  pub nodes_both : i < e → j < f
      → nodes (walk d k (part s i e)).0 (walk d k (part t j f)).0
      ≡ ordering_then (fronts k s i e t j f) (ordering_then (valued (node_at (d - 1) (part s P e)) (node_at (d - 1) (part t Q f))) (nodes (walk d k (part s (P + size_at (part s P e)) e)).0 (walk d k (part t (Q + size_at (part t Q f)) f)).0))
  unfolding nodes valued
  nodes_both a b =
      let u = child_here d k s i e nz a g in
      let v = child_here d k t j f nz b h in
      let rest = nodes (walk d k (part s (P + size_at (part s P e)) e)).0 (walk d k (part t (Q + size_at (part t Q f)) f)).0 in
      let A = options syms (head_at k (part s i e)).0 (head_at k (part t j f)).0 in
      let B = nat_cmp (kind_behind (head_at k (part s i e)).1 (node_at (d - 1) (part s P e))) (kind_behind (head_at k (part t j f)).1 (node_at (d - 1) (part t Q f))) in
      let C = slice_cmp syms (head_at k (part s i e)).1 (head_at k (part t j f)).1 in
      let Va = valued (node_at (d - 1) (part s P e)) (node_at (d - 1) (part t Q f)) in
      rw (u.nodes, v.nodes, u.byte, v.byte) (ap (λ (w : Ordering). ordering_then w rest) (sym (assoc A B C Va)) ∙ again (ordering_then A (ordering_then B C)) Va rest)
    where
      again : (w v r : Ordering) → ordering_then (ordering_then w v) r ≡ ordering_then w (ordering_then v r)
      again Less v r = refl
      again Equal v r = refl
      again Greater v r = refl

  -- the same by what the code finds
  module _ (a : i < e) (b : j < f) {o : Ordering} (w : o ≡ (fronts k s i e t j f)) where
    abbrev rest : Ordering
    rest = ordering_then (valued (node_at (d - 1) (part s P e)) (node_at (d - 1) (part t Q f))) (nodes (walk d k (part s (P + size_at (part s P e)) e)).0 (walk d k (part t (Q + size_at (part t Q f)) f)).0)

    pub front_decides : is_ne o ≡ true → o ≡ (nodes (walk d k (part s i e)).0 (walk d k (part t j f)).0)
    front_decides n = decided (fronts k s i e t j f) rest o w n ∙ sym ((nodes_both a b))

    module _ (one : is_ne o ≡ false) {p q : ℕ} {v : Ordering} (x : p ≡ P) (y : q ≡ Q) (u : v ≡ (valued (node_at (d - 1) (part s p e)) (node_at (d - 1) (part t q f)))) where
      after : nodes (walk d k (part s i e)).0 (walk d k (part t j f)).0
          ≡ ordering_then (valued (node_at (d - 1) (part s p e)) (node_at (d - 1) (part t q f))) (nodes (walk d k (part s (p + size_at (part s p e)) e)).0 (walk d k (part t (q + size_at (part t q f)) f)).0)
      after = nodes_both a b ∙ passed (fronts k s i e t j f) rest o w one ∙ rw (x, y) refl

      pub value_decides : is_ne v ≡ true → v ≡ (nodes (walk d k (part s i e)).0 (walk d k (part t j f)).0)
      value_decides n =
          decided (valued (node_at (d - 1) (part s p e)) (node_at (d - 1) (part t q f))) (nodes (walk d k (part s (p + size_at (part s p e)) e)).0 (walk d k (part t (q + size_at (part t q f)) f)).0) v u n
          ∙ sym (after)

      pub both_pass : is_ne v ≡ false → {c r : ℕ} → c ≡ size_at (part s p e) → r ≡ size_at (part t q f)
          → nodes (walk d k (part s i e)).0 (walk d k (part t j f)).0 ≡ nodes (walk d k (part s (p + c) e)).0 (walk d k (part t (q + r) f)).0
      both_pass n z z' =
          after
          ∙ passed (valued (node_at (d - 1) (part s p e)) (node_at (d - 1) (part t q f))) (nodes (walk d k (part s (p + size_at (part s p e)) e)).0 (walk d k (part t (q + size_at (part t q f)) f)).0) v u n
          ∙ rw (z, z') refl

-- the value of a child, by where the code finds it: as `value_size` wants it, and what is behind it
pub record ValueFound (d : ℕ) (k : Frame) (s : List ℕ) (i e p : ℕ) : Type 0 where
  pub value : ValueAt (d - 1) s p e
  pub forth : i ≤ p
  pub sized : 0 < size_at (part s p e)
  pub behind : p + size_at (part s p e) ≤ e
  pub next : {c : ℕ} → c ≡ size_at (part s p e) → Body d k s (p + c) e

pub value_found : (d : ℕ) (k : Frame) (s : List ℕ) (i e : ℕ) → (d ≡ 0 → ⊥) → i < e → Body d k s i e → {p : ℕ} → p ≡ i + size_taken (head_of k (part s i e)) → ValueFound d k s i e p
value_found d k s i e nz h g {p} q =
    let u = child_here d k s i e nz h g in
    rw q (record { value = u.value; forth = omega arith; sized = size-some (d - 1) (part s (i + size_taken (head_of k (part s i e))) e) u.value.fine; behind = u.next.within; next = λ z. rw z u.next })

-- no body opens where none may
pub no_depth : (d : ℕ) (k : Frame) (l : List ℕ) → d ≡ 0 → (walk d k l).1 ≡ 0 → ⊥
unfolding walk
no_depth d k l p q = let z : ◌≡◌ {A = ℕ} 3 0 = sym (ap (λ (i : ℕ). (walk i k l).1) p) ∙ q in omega arith
