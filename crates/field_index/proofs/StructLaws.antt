-- The struct nodes and the fields of a body, a child at a time. Assumes nothing.
use Prim.Native.Nat.{ℕ, suc, ◌+◌, ◌-◌, ◌<◌, ◌≤◌}
use mathlib.Core.Path.{◌≡◌, refl, sym, ap, subst, ◌∙◌}
use mathlib.Core.List.{List, [], ◌∷◌, ◌++◌}
use mathlib.Core.Bool.{Bool, true, false}
use mathlib.Core.Option.{Option, none, some}
use native.Mathlib.Omega.{arith}
use native.Mathlib.Decide.{ℕ_discrete}
use borrow.Author.Tests.{eqb-false, eq-eqb, ne_eqb}
use lib.Dec.{eqb}
use lib.ListN.{length, take, drop, length-append, length-drop}
use lib.Seq.{length-take-le}
use Rattle.output.specs.Logic.{if}
use Rattle.output.specs.Wrote.{le_bytes}
use Rattle.output.proofs.Laws.{length-le}
use Rattle.tape.specs.Bytes.{part}
use Rattle.tape.specs.Tree.{Scalar, Head, Node, Nodes, scalar, nest, marker, nil, more, size, encode_head, encode, encodes}
use Rattle.tape.specs.Tape.{reading, kind, length_of, head_of, Value, absent, leaf, body, value_of, Walked, walk}
use Rattle.tape.specs.Steps.{head_at, size_taken, node_is, size_is, problem_is, node_at, size_at, problem_at}
use Rattle.tape.specs.CheckSteps.{frame_of}
use Rattle.tape.specs.Fine.{Bytes}
use Rattle.tape.specs.declared.Frame.{Frame}
use Rattle.tape.specs.declared.Frame.TheVariants.{Top, «List» as ListF, Sexp, Struct}
use Rattle.tape.proofs.Numbers.{bytes_drop, bytes_take}
use Rattle.tape.proofs.Parts.{part_length, part-inner}
use Rattle.tape.proofs.Reading.{Sound, something, head_sound, SoundV, a_leaf, a_body, value_sound}
use Rattle.tape.proofs.CodeReading.{scalar-other, value-scalar}
use Rattle.tape.proofs.Walking.{walk_back, walk-deeper}
use Rattle.tape.proofs.Turning.{OfScalar, OpenHere, Turn, scalar_here, size-some, marker_node, open_here, head_here, turn_here}
use Rattle.field_index.specs.Structs.{own, structs_in, structs, stands_at}

-- ---- lengths of encodings

pub nest_long : (k : Frame) (ns : Nodes) → length (encode (nest k ns)) ≡ 5 + length (encodes ns)
unfolding encode
nest_long k ns =
    let a = length-append (le_bytes 4 (length (encodes ns))) (encodes ns) in
    let b = length-le 4 (length (encodes ns)) in
    omega arith

-- a value without a problem takes as many bytes as its encoding has
value_long : (d : ℕ) (l : List ℕ) → Bytes l → problem_at d l ≡ 0 → length (encode (node_at d l)) ≡ size_at l
unfolding node_at size_at problem_at
value_long d l b z = go (value_of true l) (value_sound true l) z
  where
    go : (v : Value) → SoundV l v → problem_is d l v ≡ 0 → length (encode (node_is d l v)) ≡ size_is v
    go absent s e = absurd (omega arith)
    go (leaf v n) (a_leaf p h f) e = ap length (f b) ∙ length-take-le n l h
    go (body k n) (a_body h f) e =
        let c = length-drop 5 l in
        nest_long k _ ∙ ap (λ (m : ℕ). 5 + m) (ap length (walk_back d k (take n (drop 5 l)) (bytes_take n (drop 5 l) (bytes_drop 5 l b)) e) ∙ length-take-le n (drop 5 l) (omega arith))

-- ---- looking up

module _ {A : Type 0} (at : ℕ) where
  pub stands_right : (l m : List (ℕ × A)) → stands_at at l ≡ none → stands_at at (l ++ m) ≡ stands_at at m
  unfolding stands_at
  stands_right [] m e = refl
  stands_right (x ∷ l) m e = go (eqb at x.0) e (stands_right l m)
    where
      go : (b : Bool) → if b (some x.1) (stands_at at l) ≡ none → (stands_at at l ≡ none → stands_at at (l ++ m) ≡ stands_at at m) → if b (some x.1) (stands_at at (l ++ m)) ≡ stands_at at m
      go true e r = let y : ◌≡◌ {A = ℕ} 0 1 = cc in absurd (omega arith)
      go false e r = r e

  pub stands_left : (l m : List (ℕ × A)) → stands_at at m ≡ none → stands_at at (l ++ m) ≡ stands_at at l
  unfolding stands_at
  stands_left [] m e = e
  stands_left (x ∷ l) m e = ap (λ (o : Option A). if (eqb at x.0) (some x.1) o) (stands_left l m e)

-- a container's own entry, at another offset
own_elsewhere : (at p : ℕ) (k : Frame) (ns : Nodes) → (at ≡ p → ⊥) → stands_at at (own p k ns) ≡ none
unfolding stands_at
own_elsewhere at p Top ns h = refl
own_elsewhere at p ListF ns h = refl
own_elsewhere at p Sexp ns h = refl
own_elsewhere at p Struct ns h = rw (ne_eqb at p h) refl

child_length : (h : Head) (n : Node) → length (encode_head h ++ encode n) ≡ length (encode_head h) + length (encode n)
child_length h n = length-append (encode_head h) (encode n)

-- the struct nodes of what starts at an offset stand at no smaller offset
mutual
  unfolding structs_in stands_at

  below_in : (at p : ℕ) (n : Node) → at < p → stands_at at (structs_in p n) ≡ none
  below_in at p (scalar s) h = refl
  below_in at p (nest k ns) h = stands_right at (own p k ns) (structs (p + 5) ns) (own_elsewhere at p k ns (λ e. omega arith)) ∙ below at (p + 5) ns (omega arith)
  below_in at p marker h = refl

  pub below : (at p : ℕ) (ns : Nodes) → at < p → stands_at at (structs p ns) ≡ none
  below at p nil h = refl
  below at p (more g n ns) h =
      stands_right at (structs_in (p + length (encode_head g)) n) (structs (p + length (encode_head g ++ encode n)) ns) (below_in at (p + length (encode_head g)) n (omega arith))
      ∙ below at (p + length (encode_head g ++ encode n)) ns (omega arith)

-- and at none behind its last byte
mutual
  unfolding structs_in stands_at encodes

  pub above_in : (at p : ℕ) (n : Node) → p + length (encode n) ≤ at → stands_at at (structs_in p n) ≡ none
  above_in at p (scalar s) h = refl
  above_in at p (nest k ns) h =
      let l = nest_long k ns in
      stands_right at (own p k ns) (structs (p + 5) ns) (own_elsewhere at p k ns (λ e. omega arith)) ∙ above at (p + 5) ns (omega arith)
  above_in at p marker h = refl

  above : (at p : ℕ) (ns : Nodes) → p + length (encodes ns) ≤ at → stands_at at (structs p ns) ≡ none
  above at p nil h = refl
  above at p (more g n ns) h =
      let c = child_length g n in
      let l = length-append (encode_head g ++ encode n) (encodes ns) in
      stands_right at (structs_in (p + length (encode_head g)) n) (structs (p + length (encode_head g ++ encode n)) ns) (above_in at (p + length (encode_head g)) n (omega arith))
      ∙ above at (p + length (encode_head g ++ encode n)) ns (omega arith)

-- a 13 is no value
annotated_absent : (d : ℕ) (l : List ℕ) → kind l ≡ 13 → problem_at d l ≡ 2
unfolding problem_at
annotated_absent d l e =
    ap (problem_is d l) (value-scalar true l (λ y. omega arith) (λ y. omega arith) (λ y. omega arith) (λ y. omega arith)
    ∙ ap (λ (o : Option (Scalar × ℕ)). reading o absent (λ s n. leaf (scalar s) n)) (scalar-other l (omega arith) (λ y. omega arith) (λ y. omega arith) (λ y. omega arith)))

frame_struct : (k : ℕ) → 10 ≤ k → k ≤ 12 → frame_of k ≡ Struct → k ≡ 12
unfolding frame_of
frame_struct k l h e = go (eqb k 10) (eqb k 11) refl refl e
  where
    go : (a b : Bool) → eqb k 10 ≡ a → eqb k 11 ≡ b → if a ListF (if b Sexp Struct) ≡ Struct → k ≡ 12
    go true b p q e = let y : ◌≡◌ {A = ℕ} 0 1 = cc in absurd (omega arith)
    go false true p q e = let y : ◌≡◌ {A = ℕ} 0 1 = cc in absurd (omega arith)
    go false false p q e = let m : k ≡ 10 → ⊥ = eqb-false _ _ p in let n : k ≡ 11 → ⊥ = eqb-false _ _ q in omega arith

-- ---- a child at a place of a body without a problem

module _ (k : Frame) (s : List ℕ) (at e : ℕ) (b : Bytes s) (h : at < e) (i : e ≤ length s) (z : (walk 65 k (part s at e)).1 ≡ 0) where
  -- where its value stands, and where it ends
  abbrev pub value : ℕ
  value = at + size_taken (head_of k (part s at e))

  abbrev pub next : ℕ
  next = value + size_at (part s value e)

  abbrev pub node : Node
  node = node_at 64 (part s value e)

  pub turning : Turn 65 k s at e value next
  turning = turn_here 65 k s at e (λ y. omega arith) h i z

  head_long : length (encode_head (head_at k (part s at e))) ≡ size_taken (head_of k (part s at e))
  head_long = go (head_of k (part s at e)) (head_sound k (part s at e)) (head_here 65 k s at e (λ y. omega arith) h i z)
    where
      go : (o : Option (Head × ℕ)) → Sound encode_head (part s at e) o → o ≡ some (reading o (none, []) (λ g n. g), size_taken o) → length (encode_head (reading o (none, []) (λ g n. g))) ≡ size_taken o
      go none t q = let y : ◌≡◌ {A = ℕ} 0 1 = cc in absurd (omega arith)
      go (some (g, n)) (something m f) q = ap length (f (bytes_take (e - at) (drop at s) (bytes_drop at s b))) ∙ length-take-le n (part s at e) m

  node_long : length (encode node) ≡ size_at (part s value e)
  node_long = value_long 64 (part s value e) (bytes_take (e - value) (drop value s) (bytes_drop value s b)) turning.value

  value-is : at + length (encode_head (head_at k (part s at e))) ≡ value
  value-is = ap (λ (n : ℕ). at + n) head_long

  pub next-is : at + length (encode_head (head_at k (part s at e)) ++ encode node) ≡ next
  next-is = let c = child_length (head_at k (part s at e)) node in let a = head_long in let n = node_long in omega arith

  pub structs_turn : structs at (walk 65 k (part s at e)).0 ≡ structs_in value node ++ structs next (walk 65 k (part s next e)).0
  unfolding structs
  structs_turn =
      ap (structs at) turning.nodes
      ∙ ap (λ (p : ℕ). structs_in p node ++ structs (at + length (encode_head (head_at k (part s at e)) ++ encode node)) (walk 65 k (part s next e)).0) value-is
      ∙ ap (λ (p : ℕ). structs_in value node ++ structs p (walk 65 k (part s next e)).0) next-is

  pub size-turn : size (walk 65 k (part s at e)).0 ≡ suc (size (walk 65 k (part s next e)).0)
  unfolding size
  size-turn = ap size turning.nodes

  pub size_there : 0 < size_at (part s value e)
  size_there = size-some 64 (part s value e) turning.value

  -- where the offset is looked for among them: behind the child
  pub passed : (x : ℕ) → next ≤ x → stands_at x (structs at (walk 65 k (part s at e)).0) ≡ stands_at x (structs next (walk 65 k (part s next e)).0)
  passed x g =
      let n = node_long in
      ap (stands_at x) structs_turn ∙ stands_right x (structs_in value node) (structs next (walk 65 k (part s next e)).0) (above_in x value node (omega arith))

  -- or in its value
  inside : (x : ℕ) → x < next → stands_at x (structs at (walk 65 k (part s at e)).0) ≡ stands_at x (structs_in value node)
  inside x g = ap (stands_at x) structs_turn ∙ stands_left x (structs_in value node) (structs next (walk 65 k (part s next e)).0) (below x next (walk 65 k (part s next e)).0 g)

  -- a scalar or a marker has no struct in it
  in_scalar : (x : ℕ) → OfScalar (kind (part s value e)) → stands_at x (structs_in value node) ≡ none
  unfolding structs_in stands_at
  in_scalar x f = ap (λ (n : Node). stands_at x (structs_in value n)) (scalar_here 64 (part s value e) turning.value f).node

  pub in_low : (x : ℕ) → x < next → kind (part s value e) < 10 → stands_at x (structs at (walk 65 k (part s at e)).0) ≡ none
  in_low x g c = inside x g ∙ in_scalar x (λ j u v w. omega arith)

  pub in_high : (x : ℕ) → x < next → 12 < kind (part s value e) → stands_at x (structs at (walk 65 k (part s at e)).0) ≡ none
  unfolding structs_in stands_at
  in_high x g c = inside x g ∙ go (ℕ_discrete (kind (part s value e)) 13) (ℕ_discrete (kind (part s value e)) 14)
    where
      go : Dec (kind (part s value e) ≡ 13) → Dec (kind (part s value e) ≡ 14) → stands_at x (structs_in value node) ≡ none
      go (yes p) q = let y = annotated_absent 64 (part s value e) p in let v = turning.value in absurd (omega arith)
      go (no p) (yes q) = ap (λ (n : Node). stands_at x (structs_in value n)) (marker_node 64 (part s value e) turning.value q)
      go (no p) (no q) = in_scalar x (λ j u v w. omega arith)

  -- a container
  module _ (low : 10 ≤ kind (part s value e)) (high : kind (part s value e) ≤ 12) where
    abbrev frame : Frame
    frame = frame_of (kind (part s value e))

    abbrev children : Nodes
    children = (walk 65 frame (part s (value + 5) next)).0

    opened : OpenHere 64 frame (part s value e)
    opened = open_here 64 (part s value e) turning.value low (λ y. omega arith) (λ y. omega arith)

    body_is : take (length_of (part s value e)) (drop 5 (part s value e)) ≡ part s (value + 5) next
    body_is =
        let r = opened.room in
        let z = opened.size in
        let n = part_length s value e i in
        let w = turning.within in
        let stop : value + 5 + length_of (part s value e) ≡ next = omega arith in
        part-inner s value e 5 (length_of (part s value e)) (omega arith) ∙ ap (part s (value + 5)) stop

    pub room : value + 5 ≤ next
    room = let z = opened.size in omega arith

    inner_fine : (walk 64 frame (part s (value + 5) next)).1 ≡ 0
    inner_fine = subst (λ (l : List ℕ). (walk 64 frame l).1 ≡ 0) body_is opened.fine

    deeper : walk 65 frame (part s (value + 5) next) ≡ walk 64 frame (part s (value + 5) next)
    deeper = walk-deeper 64 65 (omega arith) frame (part s (value + 5) next) inner_fine

    pub fine : (walk 65 frame (part s (value + 5) next)).1 ≡ 0
    fine = ap (λ (w : Walked). w.1) deeper ∙ inner_fine

    node-is : node ≡ nest frame children
    node-is = opened.node ∙ ap (λ (l : List ℕ). nest frame (walk 64 frame l).0) body_is ∙ ap (λ (w : Walked). nest frame w.0) (sym deeper)

    -- the struct looked for
    pub here : (x : ℕ) → x < next → value ≡ x → kind (part s value e) ≡ 12 → stands_at x (structs at (walk 65 k (part s at e)).0) ≡ some (walk 65 Struct (part s (x + 5) next)).0
    unfolding structs_in stands_at frame_of
    here x g v c =
        let f : frame ≡ Struct = ap frame_of c in
        inside x g ∙ ap (λ (n : Node). stands_at x (structs_in value n)) (node-is ∙ ap (λ (f : Frame). nest f (walk 65 f (part s (value + 5) next)).0) f)
        ∙ rw (eq-eqb x value (sym v)) (ap (λ (p : ℕ). some (walk 65 Struct (part s (p + 5) next)).0) v)

    -- or what stands in the container
    pub in_body : (x : ℕ) → x < next → (value ≡ x → kind (part s value e) ≡ 12 → ⊥) → stands_at x (structs at (walk 65 k (part s at e)).0) ≡ stands_at x (structs (value + 5) children)
    unfolding structs_in
    in_body x g c =
        inside x g ∙ ap (λ (n : Node). stands_at x (structs_in value n)) node-is
        ∙ stands_right x (own value frame children) (structs (value + 5) children) (not_own (ℕ_discrete x value))
      where
        other : (f : Frame) → frame_of (kind (part s value e)) ≡ f → (kind (part s value e) ≡ 12 → ⊥) → stands_at x (own value f children) ≡ none
        other Top q n = unfold stands_at in refl
        other ListF q n = unfold stands_at in refl
        other Sexp q n = unfold stands_at in refl
        other Struct q n = absurd (n (frame_struct (kind (part s value e)) low high q))

        not_own : Dec (x ≡ value) → stands_at x (own value frame children) ≡ none
        not_own (yes q) = other frame refl (c (sym q))
        not_own (no n) = own_elsewhere x value frame children n
