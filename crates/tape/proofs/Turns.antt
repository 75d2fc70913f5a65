-- A turn of a walk at a place of the tape, by the child that stands there, or by what validation says of it. Assumes nothing.
use Prim.Native.Nat.{ℕ, zero, suc, ◌+◌, ◌-◌, ◌<◌, ◌≤◌}
use mathlib.Core.Path.{◌≡◌, refl, sym, ap, subst, ◌∙◌}
use mathlib.Core.List.{List, []}
use mathlib.Core.Bool.{Bool, true, false, ◌||◌}
use mathlib.Core.Option.{Option, none, some}
use native.Mathlib.Omega.{arith}
use lib.Dec.{eqb}
use lib.ListN.{length, drop}
use Rattle.output.specs.Logic.{if}
use Rattle.tape.specs.Bytes.{part}
use Rattle.tape.specs.Tree.{Scalar, Head, Node, scalar, nest, marker, nil}
use Rattle.tape.specs.Tape.{reading, kind, name_of, notes_of, head_of, scalar_of, Value, absent, leaf, body, value_of, bad, single, free_at, child_of, name_fault, head_fault, scalar_fault, Walked, fault, join, walk}
use Rattle.tape.specs.Refusal.{annotated, noted, head_numbered, numbered}
use Rattle.tape.specs.Steps.{place_of, head_at}
use Rattle.tape.specs.CheckSteps.{whole, coded, scalar_code, span_of, number_in, name_number_in, end_of, frame_of, front_as, notes_front}
use Rattle.tape.specs.declared.Frame.{Frame}
use Rattle.std.specs.Prelude.{Some, None}
use Rattle.std.proofs.lemmas.Option.{same_Some}
use Rattle.tape.specs.declared.check.Front.{Front}
use Rattle.tape.proofs.Parts.{part_length, part-drop, part-inner}
use Rattle.tape.proofs.Reading.{Long, long, scalar_long, value-all, SoundV, a_leaf, a_body, value_sound}
use Rattle.tape.proofs.Walking.{walk_bad, walk-headed, walk_leaf, walk_tree}
use Rattle.tape.proofs.CodeReading.{scalar-blob, scalar-other, value-empty, value_marker, value-scalar, notes-empty}
use Rattle.tape.proofs.CodeChild.{head-within, child_headless, child_is}
use Rattle.tape.proofs.CodeFacts.{head_two, code_read, Ended, Stopped, missed, reached, end_stopped, Problem, no_problem, problem-2, problem-4, number-other, code-blob, scalar_problem, scalar-number, span-is, value_missing, value_body, front-none, head_front, front_nameless, front-head}
use Rattle.tape.proofs.CodeWalk.{join-fault}

-- d: how many bodies may be opened, this one of the frame k included; it reaches to the place e, and at is where the child starts

-- a container of the frame f; its body reaches from q to r
pub record TreeTurn (d : ℕ) (k : Frame) (s : List ℕ) (at e : ℕ) (f : Frame) (q r : ℕ) : Type 0 where
  pub step : walk d k (part s at e)
      ≡ join (head_at k (part s at e)) (nest f (walk (d - 1) f (part s q r)).0) (walk (d - 1) f (part s q r)).1 (walk d k (part s r e))
  pub behind : at + 5 ≤ q
  pub inner : q ≤ r
  pub forth : at < r
  pub within : r ≤ e

module _ (d : ℕ) (k : Frame) (s : List ℕ) (at e : ℕ) (nz : d ≡ 0 → ⊥) (h : at < e) (i : e ≤ length s) where
  some_left : 0 < length (part s at e)
  some_left = let n = part_length s at e i in omega arith

  pub bad_turn : child_of k (part s at e) ≡ bad → walk d k (part s at e) ≡ (nil, 2)
  bad_turn c = walk_bad k d (part s at e) nz some_left c

  -- behind a child without a body the rest of the nodes starts at r
  pub single_step : (n : Node) (r : ℕ) → at < r → child_of k (part s at e) ≡ single (head_at k (part s at e)) n (r - at)
      → walk d k (part s at e) ≡ join (head_at k (part s at e)) n (fault n) (walk d k (part s r e))
  single_step n r g c =
      let y : at + (r - at) ≡ r = omega arith in
      walk_leaf k d (part s at e) nz (head_at k (part s at e)) n (r - at) some_left (omega arith) c
      ∙ ap (λ (l : List ℕ). join (head_at k (part s at e)) n (fault n) (walk d k l)) (part-drop s at e (r - at) ∙ ap (λ (j : ℕ). part s j e) y)

  -- behind a head that ends at p
  pub tree_turn : (p : ℕ) → at ≤ p → p ≤ e → place_of at (head_of k (part s at e)) ≡ Some p → (f : Frame) (n : ℕ) → value_of (free_at k (part s at e)) (part s p e) ≡ body f n
      → TreeTurn d k s at e f (p + 5) (p + 5 + n)
  tree_turn p b w z f n v = go (subst (SoundV (part s p e)) v (value_sound (free_at k (part s at e)) (part s p e)))
    where
      go : SoundV (part s p e) (body f n) → TreeTurn d k s at e f (p + 5) (p + 5 + n)
      go (a_body m t) =
          let l = part_length s p e i in
          let q : ℕ = p - at + 5 in
          let start : at + q ≡ p + 5 = omega arith in
          let stop : at + q + n ≡ p + 5 + n = omega arith in
          let next : at + (q + n) ≡ p + 5 + n = omega arith in
          let both : List ℕ → List ℕ → Walked = λ x y. join (head_at k (part s at e)) (nest f (walk (d - 1) f x).0) (walk (d - 1) f x).1 (walk d k y) in
          record {
            step =
                walk_tree k d (part s at e) nz (head_at k (part s at e)) f q n some_left (omega arith) (child_is k s at e p b z (body f n) v)
                ∙ ap (λ (x : List ℕ). both x (drop (q + n) (part s at e))) (part-inner s at e q n (omega arith) ∙ ap (λ (j : ℕ). part s j (at + q + n)) start ∙ ap (part s (p + 5)) stop)
                ∙ ap (both (part s (p + 5) (p + 5 + n))) (part-drop s at e (q + n) ∙ ap (λ (j : ℕ). part s j e) next);
            behind = omega arith;
            inner = omega arith;
            forth = omega arith;
            within = omega arith;
          }

-- ---- validation: a head, and a value behind it

-- the head has no problem and ends at p; m and n: whether there are annotations, and whether there is an identifier but 0, in it or, by a and b, before it
pub record HeadSeen (k : Frame) (s : List ℕ) (at e : ℕ) (a b : Bool) (p : ℕ) (m n : Bool) : Type 0 where
  pub place : place_of at (head_of k (part s at e)) ≡ Some p
  pub sound : head_fault (head_at k (part s at e)) ≡ 0
  pub notes : m ≡ a || annotated (head_at k (part s at e)).1
  pub numbers : n ≡ b || head_numbered (head_at k (part s at e))
  pub behind : at ≤ p
  pub within : p ≤ e

-- behind such a head a value without a body and without a problem; b: whether it is an identifier but 0; it ends at r
pub record LeafSeen (d : ℕ) (k : Frame) (s : List ℕ) (at e r : ℕ) (b : Bool) : Type 0 where
  pub node : Node
  pub step : walk d k (part s at e) ≡ join (head_at k (part s at e)) node (fault node) (walk d k (part s r e))
  pub sound : fault node ≡ 0
  pub notes : noted node ≡ false
  pub numbers : numbered node ≡ b
  pub forth : at < r
  pub within : r ≤ e

-- the child at the place is refused by g
pub record Refused (d : ℕ) (k : Frame) (s : List ℕ) (at e g : ℕ) : Type 0 where
  pub fault : (walk d k (part s at e)).1 ≡ g
  pub some : g ≡ 0 → ⊥

-- annotations that are the same in their parts
pub whole_parts : {p q : ℕ} {m n b d : Bool} → whole p m b ≡ whole q n d → (p ≡ q) × (m ≡ n) × (b ≡ d)
whole_parts e = let f = same_Some _ _ e in (ap (λ (x : Front). x.end) f, ap (λ (x : Front). x.noted) f, ap (λ (x : Front). x.numbered) f)

head-turn : (k : Frame) (s : List ℕ) (at e : ℕ) (a b : Bool) (p : ℕ) (m n : Bool) → at ≤ e → e ≤ length s → whole p m n ≡ head_front at a b (head_of k (part s at e))
    → HeadSeen k s at e a b p m n
head-turn k s at e a b p m n h i z =
    let g = go (head_of k (part s at e)) z in
    let w = head-within k s at e p h i g.0 in
    record { place = g.0; sound = g.1; notes = g.2; numbers = g.3; behind = w.0; within = w.1 }
  where
    its : Option (Head × ℕ) → Head
    its o = reading o (none, []) (λ g j. g)

    Told : Option (Head × ℕ) → Type 0
    Told o = (place_of at o ≡ Some p) × (head_fault (its o) ≡ 0) × (m ≡ a || annotated (its o).1) × (n ≡ b || head_numbered (its o))

    go : (o : Option (Head × ℕ)) → whole p m n ≡ head_front at a b o → Told o
    go none z = let y : ◌≡◌ {A = ℕ} 0 1 = cc in absurd (omega arith)
    go (some (g, j)) z = by (head_fault g) refl z
      where
        by : (f : ℕ) → head_fault g ≡ f → whole p m n ≡ front_as f (at + j) (a || annotated g.1) (b || head_numbered g) → Told (some (g, j))
        by zero x z = let y = whole_parts z in (ap Some (sym y.0), x, y.1, y.2)
        by (suc f) x z = let y : ◌≡◌ {A = ℕ} 0 1 = cc in absurd (omega arith)

-- no annotation stands in a value without a body
abbrev leaf_noted : Value → Bool
leaf_noted absent = false
leaf_noted (leaf v n) = noted v
leaf_noted (body k n) = false

value_unnoted : (f : Bool) (l : List ℕ) → leaf_noted (value_of f l) ≡ false
unfolding noted
value_unnoted f l = value-all (λ (v : Value). leaf_noted v ≡ false) f l refl (λ k _ _ _. refl) (λ _ _. refl) (λ s n _. refl)

-- ---- the turns

module _ (d : ℕ) (k : Frame) (s : List ℕ) (at e : ℕ) (nz : d ≡ 0 → ⊥) (h : at < e) (i : e ≤ length s) where
  headless_turn : (a b : Bool) → None ≡ head_front at a b (head_of k (part s at e)) → Refused d k s at e 2
  headless_turn a b z = record { fault = go (head_of k (part s at e)) refl z; some = λ z. omega arith }
    where
      go : (o : Option (Head × ℕ)) → head_of k (part s at e) ≡ o → None ≡ head_front at a b o → (walk d k (part s at e)).1 ≡ 2
      go none q z = ap (λ (w : Walked). w.1) (bad_turn d k s at e nz h i (child_headless k s at e q))
      go (some (g, n)) q z = by (head_fault g) refl z
        where
          by : (f : ℕ) → head_fault g ≡ f → None ≡ front_as f (at + n) (a || annotated g.1) (b || head_numbered g) → (walk d k (part s at e)).1 ≡ 2
          by zero x z = let y : ◌≡◌ {A = ℕ} 0 1 = cc in absurd (omega arith)
          by (suc f) x z = walk-headed k d (part s at e) nz (some_left d k s at e nz h i) g n q (head_two g (λ y. omega arith))

  -- behind a head
  module _ {a b : Bool} {p : ℕ} {m n : Bool} (w : HeadSeen k s at e a b p m n) where
    leaf_step : (v : Node) (j : ℕ) → value_of (free_at k (part s at e)) (part s p e) ≡ leaf v j
        → (walk d k (part s at e) ≡ join (head_at k (part s at e)) v (fault v) (walk d k (part s (p + j) e))) × (at < p + j) × (p + j ≤ e)
    leaf_step v j q = go (subst (SoundV (part s p e)) q (value_sound (free_at k (part s at e)) (part s p e)))
      where
        go : SoundV (part s p e) (leaf v j)
            → (walk d k (part s at e) ≡ join (head_at k (part s at e)) v (fault v) (walk d k (part s (p + j) e))) × (at < p + j) × (p + j ≤ e)
        go (a_leaf one most t) =
            let l = part_length s p e i in
            let bh = w.behind in
            let wi = w.within in
            let u : p - at + j ≡ p + j - at = omega arith in (
              single_step d k s at e nz h i v (p + j) (omega arith) (child_is k s at e p bh w.place (leaf v j) q ∙ ap (single (head_at k (part s at e)) v) u),
              omega arith,
              omega arith,
            )

    absent_turn : value_of (free_at k (part s at e)) (part s p e) ≡ absent → Refused d k s at e 2
    absent_turn q = record {
      fault = ap (λ (u : Walked). u.1) (bad_turn d k s at e nz h i (child_is k s at e p w.behind w.place absent q));
      some = λ z. omega arith;
    }

    wrong_turn : (v : Node) (j : ℕ) → value_of (free_at k (part s at e)) (part s p e) ≡ leaf v j → (g : ℕ) → fault v ≡ g → (g ≡ 0 → ⊥) → Refused d k s at e g
    wrong_turn v j q g x y = record {
      fault = ap (λ (u : Walked). u.1) (leaf_step v j q).0 ∙ join-fault (head_at k (part s at e)) v (fault v) (walk d k (part s (p + j) e)) w.sound (λ z. y (sym x ∙ z)) ∙ x;
      some = y;
    }

    single-turn : (v : Node) (j : ℕ) → value_of (free_at k (part s at e)) (part s p e) ≡ leaf v j → fault v ≡ 0 → (c : Bool) → numbered v ≡ c → LeafSeen d k s at e (p + j) c
    single-turn v j q z c y =
        let u = leaf_step v j q in
        record {
          node = v;
          step = u.0;
          sound = z;
          notes = sym (ap leaf_noted q) ∙ value_unnoted (free_at k (part s at e)) (part s p e);
          numbers = y;
          forth = u.1;
          within = u.2;
        }

    -- no bytes are left
    pub end_refused : p ≡ e → Refused d k s at e 2
    end_refused q = let l = part_length s p e i in absent_turn (value-empty (free_at k (part s at e)) (part s p e) (omega arith))

    -- ---- a scalar, by its number

    module _ (its : value_of (free_at k (part s at e)) (part s p e) ≡ reading (scalar_of (part s p e)) absent (λ x j. leaf (scalar x) j)) (c : ℕ) (q : c ≡ scalar_code (scalar_of (part s p e))) where
      scalar-refused : c < 2 → Refused d k s at e (if (eqb c 0) 2 4)
      scalar-refused g = go (scalar_of (part s p e)) refl (scalar_long (part s p e)) q
        where
          by : (x : Scalar) (j : ℕ) → scalar_of (part s p e) ≡ some (x, j) → 1 < j → (f : ℕ) → scalar_fault x ≡ f → Problem f → c ≡ coded f j → Refused d k s at e (if (eqb c 0) 2 4)
          by x j u v f y no_problem r = absurd (omega arith)
          by x j u v f y problem-2 r = rw r (wrong_turn (scalar x) j (its ∙ rw u) 2 y (λ z. omega arith))
          by x j u v f y problem-4 r = rw r (wrong_turn (scalar x) j (its ∙ rw u) 4 y (λ z. omega arith))

          go : (o : Option (Scalar × ℕ)) → scalar_of (part s p e) ≡ o → Long o → c ≡ scalar_code o → Refused d k s at e (if (eqb c 0) 2 4)
          go none u v r = rw r (absent_turn (its ∙ rw u))
          go (some (x, j)) u (long v) r = by x j u v (scalar_fault x) refl (scalar_problem x) r

      scalar-turn : 2 ≤ c → LeafSeen d k s at e (p + c) (number_in (part s p e))
      unfolding numbered
      scalar-turn g =
          let r = code_read scalar_fault (scalar_of (part s p e)) c q g in
          single-turn (scalar r.it) c (its ∙ ap (λ (o : Option (Scalar × ℕ)). reading o absent (λ x j. leaf (scalar x) j)) r.is) r.sound _ (scalar-number (part s p e) r.it c r.is)

    -- the kinds below 10
    module _ (below : kind (part s p e) < 10) (c : ℕ) (q : c ≡ scalar_code (scalar_of (part s p e))) where
      below_ten : value_of (free_at k (part s at e)) (part s p e) ≡ reading (scalar_of (part s p e)) absent (λ x j. leaf (scalar x) j)
      below_ten = value-scalar (free_at k (part s at e)) (part s p e) (λ z. omega arith) (λ z. omega arith) (λ z. omega arith) (λ z. omega arith)

      pub size-refused : c < 2 → Refused d k s at e (if (eqb c 0) 2 4)
      size-refused g = scalar-refused below_ten c q g

      pub size-turn : 2 ≤ c → LeafSeen d k s at e (p + c) (number_in (part s p e))
      size-turn g = scalar-turn below_ten c q g

    -- a blob
    module _ (fifteen : kind (part s p e) ≡ 15) where
      blob-is : value_of (free_at k (part s at e)) (part s p e) ≡ reading (scalar_of (part s p e)) absent (λ x j. leaf (scalar x) j)
      blob-is = value-scalar (free_at k (part s at e)) (part s p e) (λ z. omega arith) (λ z. omega arith) (λ z. omega arith) (λ z. omega arith)

      blob-code : span_of (part s p e) ≡ scalar_code (scalar_of (part s p e))
      blob-code = code-blob (part s p e) ∙ sym (ap scalar_code (scalar-blob (part s p e) fifteen))

      pub blob-refused : 0 ≡ span_of (part s p e) → Refused d k s at e 2
      blob-refused q = scalar-refused blob-is 0 (q ∙ blob-code) (omega arith)

      pub blob-turn : (c : ℕ) → c ≡ span_of (part s p e) → (c ≡ 0 → ⊥) → LeafSeen d k s at e (p + c) false
      blob-turn c q z =
          let m = (span-is (part s p e) c q z).0 in
          subst (LeafSeen d k s at e (p + c)) (number-other (part s p e) (λ y. omega arith)) (scalar-turn blob-is c (q ∙ blob-code) (omega arith))

    -- ---- a container

    module _ (above : 10 ≤ kind (part s p e)) (below : kind (part s p e) < 13) where
      pub span-refused : 0 ≡ span_of (part s p e) → Refused d k s at e 2
      span-refused q = absent_turn (value_missing (free_at k (part s at e)) (part s p e) above below q)

      pub span-turn : (c : ℕ) → c ≡ span_of (part s p e) → (c ≡ 0 → ⊥) → TreeTurn d k s at e (frame_of (kind (part s p e))) (p + 5) (p + c)
      span-turn c q z =
          let f = free_at k (part s at e) in
          let x = frame_of (kind (part s p e)) in
          let m = (span-is (part s p e) c q z).0 in
          let y : p + 5 + (c - 5) ≡ p + c = omega arith in
          subst (TreeTurn d k s at e x (p + 5)) y
          (tree_turn d k s at e nz h i p w.behind w.within w.place x (c - 5) (value_body f (part s p e) above below c q z))

    -- ---- neither

    pub other-refused : 12 < kind (part s p e) → (kind (part s p e) ≡ 14 → ⊥) → (kind (part s p e) ≡ 15 → ⊥) → Refused d k s at e 2
    other-refused a b c =
        absent_turn
        (value-scalar (free_at k (part s at e)) (part s p e) (λ z. omega arith) (λ z. omega arith) (λ z. omega arith) b
        ∙ rw (scalar-other (part s p e) (omega arith) (λ z. omega arith) (λ z. omega arith) c))

    pub marker_refused : kind (part s p e) ≡ 14 → free_at k (part s at e) ≡ false → Refused d k s at e 2
    marker_refused q f = absent_turn (value_marker (free_at k (part s at e)) (part s p e) q ∙ rw f)

    pub marker_turn : kind (part s p e) ≡ 14 → free_at k (part s at e) ≡ true → LeafSeen d k s at e (p + 1) false
    unfolding numbered
    marker_turn q f = single-turn marker 1 (value_marker (free_at k (part s at e)) (part s p e) q ∙ rw f) refl false refl

  -- ---- a name, and annotations behind it

  pub name-refused : (a b : Bool) (q : ℕ) → q ≡ end_of name_fault at e (name_of k (part s at e)) → q ≡ e → Refused d k s at e 2
  name-refused a b q z y = go (end_stopped name_fault at e (name_of k (part s at e)) (sym y ∙ z))
    where
      go : Stopped name_fault at e (name_of k (part s at e)) → Refused d k s at e 2
      go (missed m) = headless_turn a b (front_nameless k s at e a b m)
      go (reached r) =
          let l = part_length s e e i in
          end_refused (head-turn k s at e a b e a (b || name_number_in k (part s at e)) (omega arith) i (front-none (part s e e) e a (b || name_number_in k (part s at e)) (notes-empty (part s e e) (omega arith)) ∙ front-head k s at e a b e r)) refl

  module _ (a b : Bool) (q : ℕ) (r : Ended name_fault at q (name_of k (part s at e))) where
    pub notes-refused : None ≡ notes_front q a (b || name_number_in k (part s at e)) (notes_of (part s q e)) → Refused d k s at e 2
    notes-refused z = headless_turn a b (z ∙ front-head k s at e a b q r)

    pub notes-turn : (p : ℕ) (m n : Bool) → whole p m n ≡ notes_front q a (b || name_number_in k (part s at e)) (notes_of (part s q e)) → HeadSeen k s at e a b p m n
    notes-turn p m n z = head-turn k s at e a b p m n (omega arith) i (z ∙ front-head k s at e a b q r)
