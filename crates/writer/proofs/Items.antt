-- The text that the walk writes: in the layouts 0 to 2 it is the streaming text. Assumes nothing.
use Prim.Native.Nat.{ℕ, ◌+◌, ◌-◌, ◌<◌, ◌≤◌}
use mathlib.Core.Path.{◌≡◌, refl, sym, ap, ◌∙◌}
use mathlib.Core.List.{List, [], ◌++◌, append_assoc, append-nil}
use mathlib.Core.Bool.{Bool, true, false, not}
use mathlib.Core.Option.{Option}
use native.Mathlib.Decide.{dec_le}
use native.Mathlib.Omega.{arith}
use borrow.Author.Tests.{eqb-true, eqb-false, lt-ltb, le-ltb, eq-eqb, ne_eqb}
use lib.Dec.{ltb, eqb}
use lib.ListN.{length, get_or, take, drop}
use Rattle.output.specs.Logic.{if, ascii}
use Rattle.tape.specs.Bytes.{part, le_number}
use Rattle.tape.specs.Tree.{Scalar, Head, Node, Nodes, scalar, nest, marker, nil, more}
use Rattle.tape.specs.Tape.{reading, kind, length_of, head_of, scalar_of, Walked, walk}
use Rattle.tape.specs.Steps.{head_at, size_taken, node_at, size_at, problem_at}
use Rattle.tape.specs.CheckSteps.{frame_of}
use Rattle.tape.specs.declared.Frame.{Frame}
use Rattle.writer.specs.Text.{scalar_text, name_text, notes_text, opening, closing, separator, broken, deeper, blanks, text, texts}
use Rattle.tape.proofs.Parts.{part_length, part-first, part-number, part-inner}
use Rattle.writer.specs.Steps.{front, ending, is_nil, item, items}
use Rattle.tape.proofs.Walking.{walk_end}
use Rattle.tape.proofs.Turning.{OfScalar, ScalarHere, OpenHere, some_here, size-some, scalar_here, marker_node, marker_size, open_here, turn_here}

-- ---- a turn of the walk

-- nothing is left behind the last child, and only there
left_nil : (d : ℕ) (k : Frame) (s : List ℕ) (at e : ℕ) → (d ≡ 0 → ⊥) → at ≤ e → e ≤ length s → (walk d k (part s at e)).1 ≡ 0 → is_nil (walk d k (part s at e)).0 ≡ eqb at e
left_nil d k s at e nz h i z = go (eqb at e) refl
  where
    go : (b : Bool) → eqb at e ≡ b → is_nil (walk d k (part s at e)).0 ≡ b
    go true q =
        let y : at ≡ e = eqb-true _ _ q in
        let len = part_length s at e i in
        ap (λ (w : Walked). is_nil w.0) (walk_end k d (part s at e) nz (omega arith))
    go false q =
        let y : at ≡ e → ⊥ = eqb-false _ _ q in
        ap is_nil (turn_here d k s at e nz (omega arith) i z).nodes

module _ (quoted : Bool) (y : ℕ) (w : ℕ) (d : ℕ) (k : Frame) (s : List ℕ) (at e : ℕ) (nz : d ≡ 0 → ⊥) (h : at < e) (i : e ≤ length s) (z : (walk d k (part s at e)).1 ≡ 0) where
  abbrev value : ℕ
  value = at + size_taken (head_of k (part s at e))

  abbrev next : ℕ
  next = value + size_at (part s value e)

  -- the text from a place on is that of the child there, and what is left
  pub items_turn : items quoted y k w (walk d k (part s at e)).0
      ≡ (front quoted y w (head_at k (part s at e)) ++ (item quoted y w (node_at (d - 1) (part s value e)) ++ ending y k (eqb next e))) ++ items quoted y k w (walk d k (part s next e)).0
  unfolding items
  items_turn =
      let t = turn_here d k s at e nz h i z in
      ap (items quoted y k w) t.nodes
      ∙ ap (λ (b : Bool). (front quoted y w (head_at k (part s at e)) ++ (item quoted y w (node_at (d - 1) (part s value e)) ++ ending y k b)) ++ items quoted y k w (walk d k (part s next e)).0) (left_nil d k s next e nz t.behind i t.fine)

-- a child behind which nothing stands in its body is the last
pub last_child : (n e : ℕ) → n ≤ e → not (ltb n e) ≡ eqb n e
last_child n e h = go (dec_le e n)
  where
    go : Dec (e ≤ n) → not (ltb n e) ≡ eqb n e
    go (yes g) = let q : n ≡ e = omega arith in rw (le-ltb n e g, eq-eqb n e q)
    go (no g) = rw (lt-ltb n e (omega arith), ne_eqb n e (λ (q : n ≡ e). omega arith))

pub not_last : (b : Bool) → if b false false ≡ false
not_last true = refl
not_last false = refl

-- ---- a value of the walk

-- a container: its body, its text, and where it ends
pub record Container (quoted : Bool) (y w d : ℕ) (s : List ℕ) (at e : ℕ) (f : Frame) (start stop : ℕ) : Type 0 where
  pub fine : (walk d f (part s start stop)).1 ≡ 0
  pub written : item quoted y w (node_at d (part s at e)) ≡ (opening f ++ broken y) ++ items quoted y f (deeper y w) (walk d f (part s start stop)).0 ++ (blanks w ++ closing f)
  pub place : stop ≡ at + size_at (part s at e)
  pub room : stop ≤ e

module _ (quoted : Bool) (y w d : ℕ) (s : List ℕ) (at e : ℕ) (i : e ≤ length s) (z : problem_at d (part s at e) ≡ 0) where
  pub value-place : at < e
  value-place = let h = some_here d (part s at e) z in let n = part_length s at e i in omega arith

  first_byte : kind (part s at e) ≡ get_or s at 0
  first_byte = part-first s at e value-place

  scalar_is : OfScalar (get_or s at 0) → ScalarHere d (part s at e)
  scalar_is h = scalar_here d (part s at e) z (λ j a b q. h j a b (sym first_byte ∙ q))

  pub scalar-text : OfScalar (get_or s at 0) → item quoted y w (node_at d (part s at e)) ≡ reading (scalar_of (part s at e)) [] (λ s n. scalar_text quoted s)
  unfolding item
  scalar-text h =
      let r = scalar_is h in
      ap (item quoted y w) r.node ∙ sym (ap (λ (o : Option (Scalar × ℕ)). reading o [] (λ s n. scalar_text quoted s)) r.read)

  pub scalar_size : OfScalar (get_or s at 0) → size_at (part s at e) ≡ size_taken (scalar_of (part s at e))
  scalar_size h =
      let r = scalar_is h in
      r.size ∙ sym (ap (λ (o : Option (Scalar × ℕ)). size_taken o) r.read)

  pub scalar-some : OfScalar (get_or s at 0) → 0 < size_taken (scalar_of (part s at e))
  scalar-some h = let n = size-some d (part s at e) z in let q = scalar_size h in omega arith

  pub marker_text : get_or s at 0 ≡ 14 → item quoted y w (node_at d (part s at e)) ≡ ascii "$ion_1_0"
  unfolding item
  marker_text h = ap (item quoted y w) (marker_node d (part s at e) z (first_byte ∙ h))

  pub marker_length : get_or s at 0 ≡ 14 → size_at (part s at e) ≡ 1
  marker_length h = marker_size d (part s at e) z (first_byte ∙ h)

  module _ (h : 10 ≤ get_or s at 0) (m : get_or s at 0 ≡ 14 → ⊥) (l : get_or s at 0 ≡ 15 → ⊥) where
    opened : OpenHere d (frame_of (kind (part s at e))) (part s at e)
    opened = let k = first_byte in open_here d (part s at e) z (omega arith) (λ e. m (sym k ∙ e)) (λ e. l (sym k ∙ e))

    pub header_room : at + 5 ≤ e
    header_room = let r = opened.room in let n = part_length s at e i in omega arith

    length_here : length_of (part s at e) ≡ le_number 4 (drop (at + 1) s)
    length_here = let r = header_room in part-number s at e 4 1 (omega arith)

    pub container : (f : Frame) → f ≡ frame_of (get_or s at 0) → (n : ℕ) → n ≡ le_number 4 (drop (at + 1) s) → Container quoted y w d s at e f (at + 5) (at + 5 + n)
    unfolding item
    container f g n j =
        let o = opened in
        let r = o.room in
        let len = part_length s at e i in
        let q : length_of (part s at e) ≡ n = length_here ∙ sym j in
        let k : frame_of (kind (part s at e)) ≡ f = ap frame_of first_byte ∙ sym g in
        let inner : take (length_of (part s at e)) (drop 5 (part s at e)) ≡ part s (at + 5) (at + 5 + n) = ap (λ (x : ℕ). take x (drop 5 (part s at e))) q ∙ part-inner s at e 5 n (omega arith) in
        let body : Frame → List ℕ → List ℕ = λ f l. (opening f ++ broken y) ++ items quoted y f (deeper y w) (walk d f l).0 ++ (blanks w ++ closing f) in
        record {
          fine = ap (λ (x : Frame). (walk d x (part s (at + 5) (at + 5 + n))).1) (sym k) ∙ ap (λ (l : List ℕ). (walk d (frame_of (kind (part s at e))) l).1) (sym inner) ∙ o.fine;
          written = ap (item quoted y w) o.node ∙ ap (body (frame_of (kind (part s at e)))) inner ∙ ap (λ (x : Frame). body x (part s (at + 5) (at + 5 + n))) k;
          place = let v = o.size in omega arith;
          room = omega arith;
        }

-- ---- the streaming text

module _ (quoted : Bool) (y : ℕ) (q : eqb y 3 ≡ false) where
  front-plain : (w : ℕ) (h : Head) → front quoted y w h ≡ blanks w ++ name_text quoted h.0
  unfolding front
  front-plain w h = ap (λ (b : Bool). blanks w ++ name_text quoted h.0 ++ if b (notes_text quoted h.1) []) q ∙ append-nil _

  ending-plain : (k : Frame) (last : Bool) → ending y k last ≡ separator y k
  unfolding ending
  ending-plain k last = ap (λ (b : Bool). if (if b last false) [] (separator y k)) q

  mutual
    unfolding item text items texts

    item_text : (w : ℕ) (n : Node) → item quoted y w n ≡ text quoted y w n
    item_text w (scalar s) = refl
    item_text w (nest k ns) =
        ap (λ (x : List ℕ). (opening k ++ broken y) ++ x ++ (blanks w ++ closing k)) (items_texts k (deeper y w) ns)
        ∙ simp append_assoc
    item_text w marker = refl

    pub items_texts : (k : Frame) (w : ℕ) (ns : Nodes) → items quoted y k w ns ≡ texts quoted y k w ns
    items_texts k w nil = refl
    items_texts k w (more h n ns) =
        ap (λ (x : List ℕ). (x ++ (item quoted y w n ++ ending y k (is_nil ns))) ++ items quoted y k w ns) (front-plain w h)
        ∙ ap (λ (x : List ℕ). (blanks w ++ name_text quoted h.0 ++ (item quoted y w n ++ x)) ++ items quoted y k w ns) (ending-plain k (is_nil ns))
        ∙ ap (λ (x : List ℕ). (blanks w ++ name_text quoted h.0 ++ (x ++ separator y k)) ++ items quoted y k w ns) (item_text w n)
        ∙ ap (λ (x : List ℕ). (blanks w ++ name_text quoted h.0 ++ (text quoted y w n ++ separator y k)) ++ x) (items_texts k w ns)
        ∙ ap (λ (x : List ℕ). x ++ texts quoted y k w ns) (sym (append_assoc (blanks w ++ name_text quoted h.0) (text quoted y w n) (separator y k)))
