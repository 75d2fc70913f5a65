-- A turn of the walk over nodes without a problem: the head of a child, its value, and what is left behind it. Assumes nothing.
use Prim.Native.Nat.{ℕ, ◌+◌, ◌-◌, ◌<◌, ◌≤◌}
use mathlib.Core.Path.{◌≡◌, refl, sym, ap, ◌∙◌}
use mathlib.Core.List.{List, []}
use mathlib.Core.Bool.{Bool, true, false}
use mathlib.Core.Option.{Option, none, some}
use native.Mathlib.Omega.{arith}
use borrow.Author.Tests.{leb-true}
use native.Mathlib.Decide.{dec_le}
use lib.Dec.{eqb, leb}
use lib.ListN.{length, take, drop}
use Rattle.output.specs.Logic.{if}
use Rattle.tape.specs.Bytes.{part}
use Rattle.tape.specs.Tree.{Scalar, Head, Node, scalar, nest, marker, more}
use Rattle.tape.specs.Tape.{reading, kind, length_of, head_of, scalar_of, Value, absent, leaf, body, open_of, value_of, free_at, bad, single, child_of, head_fault, fault, Walked, walk}
use Rattle.tape.specs.Steps.{place_of, head_at, size_taken, node_is, size_is, problem_is, node_at, size_at, problem_at}
use Rattle.tape.specs.CheckSteps.{frame_of}
use Rattle.tape.specs.declared.Frame.{Frame}
use Rattle.std.specs.Prelude.{Some}
use Rattle.tape.proofs.Parts.{part_length, part-inner}
use Rattle.tape.proofs.Reading.{SoundV, a_leaf, a_body, value_sound}
use Rattle.tape.proofs.CodeReading.{value_marker, value-scalar, scalar-other}
use Rattle.tape.proofs.CodeFacts.{value_open}
use Rattle.tape.proofs.CodeChild.{head-within, child_headless, child_is}
use Rattle.tape.proofs.Walking.{join-zero}
use Rattle.tape.proofs.Turns.{bad_turn, single_step, tree_turn}

-- ---- a value, by its kind

-- a value that may stand where no marker may is the same where one may
free_any : (f : Bool) (l : List ℕ) → (value_of f l ≡ absent → ⊥) → value_of true l ≡ value_of f l
unfolding value_of
free_any true l h = refl
free_any false l h = go (eqb (kind l) 10) (eqb (kind l) 11) (eqb (kind l) 12) (eqb (kind l) 14) _ _ _ _ h
  where
    go : (a b c m : Bool) (u v w x : Value) → (if a u (if b v (if c w (if m (if false (leaf marker 1) absent) x))) ≡ absent → ⊥)
        → if a u (if b v (if c w (if m (if true (leaf marker 1) absent) x))) ≡ if a u (if b v (if c w (if m (if false (leaf marker 1) absent) x)))
    go true b c m u v w x h = refl
    go false true c m u v w x h = refl
    go false false true m u v w x h = refl
    go false false false true u v w x h = absurd (h refl)
    go false false false false u v w x h = refl

-- the kind of a scalar, 15 too, is none of 10 to 14
abbrev pub OfScalar : ℕ → Type 0
OfScalar k = (j : ℕ) → 10 ≤ j → j ≤ 14 → k ≡ j → ⊥

-- the value is a scalar
pub record ScalarHere (d : ℕ) (l : List ℕ) : Type 0 where
  pub it : Scalar
  pub count : ℕ
  pub read : scalar_of l ≡ some (it, count)
  pub node : node_at d l ≡ scalar it
  pub size : size_at l ≡ count

-- the value is a container of the frame f
pub record OpenHere (d : ℕ) (f : Frame) (l : List ℕ) : Type 0 where
  pub room : 5 + length_of l ≤ length l
  pub node : node_at d l ≡ nest f (walk d f (take (length_of l) (drop 5 l))).0
  pub size : size_at l ≡ 5 + length_of l
  pub fine : (walk d f (take (length_of l) (drop 5 l))).1 ≡ 0

module _ (d : ℕ) (l : List ℕ) (z : problem_at d l ≡ 0) where
  -- a value stands here
  present : value_of true l ≡ absent → ⊥
  unfolding problem_at
  present e = let y : problem_at d l ≡ 2 = ap (problem_is d l) e in omega arith

  pub some_here : 0 < length l
  some_here = go (value_of true l) refl (value_sound true l)
    where
      go : (v : Value) → value_of true l ≡ v → SoundV l v → 0 < length l
      go absent q t = absurd (present q)
      go (leaf v n) q (a_leaf p h e) = omega arith
      go (body k n) q (a_body h e) = omega arith

  pub size-some : 0 < size_at l
  unfolding size_at
  size-some = go (value_of true l) refl (value_sound true l)
    where
      go : (v : Value) → value_of true l ≡ v → SoundV l v → 0 < size_is v
      go absent q t = absurd (present q)
      go (leaf v n) q (a_leaf p h e) = p
      go (body k n) q (a_body h e) = omega arith

  as_scalar : value_of true l ≡ reading (scalar_of l) absent (λ s n. leaf (scalar s) n) → ScalarHere d l
  unfolding node_at size_at
  as_scalar e = go (scalar_of l) refl
    where
      go : (o : Option (Scalar × ℕ)) → scalar_of l ≡ o → ScalarHere d l
      go none q = absurd (present (e ∙ ap (λ (o : Option (Scalar × ℕ)). reading o absent (λ s n. leaf (scalar s) n)) q))
      go (some (s, n)) q =
          let v : value_of true l ≡ leaf (scalar s) n = e ∙ ap (λ (o : Option (Scalar × ℕ)). reading o absent (λ s n. leaf (scalar s) n)) q in
          record { it = s; count = n; read = q; node = ap (node_is d l) v; size = ap size_is v }

  pub scalar_here : OfScalar (kind l) → ScalarHere d l
  scalar_here h = as_scalar (value-scalar true l (h 10 (omega arith) (omega arith)) (h 11 (omega arith) (omega arith)) (h 12 (omega arith) (omega arith)) (h 14 (omega arith) (omega arith)))

  pub marker_node : kind l ≡ 14 → node_at d l ≡ marker
  unfolding node_at
  marker_node h = ap (node_is d l) (value_marker true l h)

  pub marker_size : kind l ≡ 14 → size_at l ≡ 1
  unfolding size_at
  marker_size h = ap size_is (value_marker true l h)

  as_open : (f : Frame) → value_of true l ≡ open_of f l → OpenHere d f l
  unfolding open_of node_at size_at problem_at
  as_open f e = go (leb (5 + length_of l) (length l)) refl
    where
      opened : (b : Bool) → leb (5 + length_of l) (length l) ≡ b → value_of true l ≡ if b (body f (length_of l)) absent
      opened b q = e ∙ ap (λ (b : Bool). if b (body f (length_of l)) absent) q

      go : (b : Bool) → leb (5 + length_of l) (length l) ≡ b → OpenHere d f l
      go false q = absurd (present (opened false q))
      go true q =
          let v : value_of true l ≡ body f (length_of l) = opened true q in
          let y : problem_at d l ≡ (walk d f (take (length_of l) (drop 5 l))).1 = ap (problem_is d l) v in
          record { room = leb-true _ _ q; node = ap (node_is d l) v; size = ap size_is v; fine = sym y ∙ z }

  pub open_here : 10 ≤ kind l → (kind l ≡ 14 → ⊥) → (kind l ≡ 15 → ⊥) → OpenHere d (frame_of (kind l)) l
  open_here h m n = go (dec_le (kind l) 12)
    where
      go : Dec (kind l ≤ 12) → OpenHere d (frame_of (kind l)) l
      go (yes k) = as_open (frame_of (kind l)) (value_open true l h (omega arith))
      go (no k) =
          let s = as_scalar (value-scalar true l (λ e. omega arith) (λ e. omega arith) (λ e. omega arith) m) in
          let r = s.read in
          let y = scalar-other l (omega arith) (λ e. omega arith) (λ e. omega arith) n in
          let x : ◌≡◌ {A = ℕ} 0 1 = cc in
          absurd (omega arith)

-- ---- a child

-- the child at a place: where its value stands, the value, and what is left behind it
pub record Turn (d : ℕ) (k : Frame) (s : List ℕ) (at e q r : ℕ) : Type 0 where
  pub within : q ≤ e
  pub value : problem_at (d - 1) (part s q e) ≡ 0
  pub nodes : (walk d k (part s at e)).0 ≡ more (head_at k (part s at e)) (node_at (d - 1) (part s q e)) (walk d k (part s r e)).0
  pub fine : (walk d k (part s r e)).1 ≡ 0
  pub forth : at < r
  pub behind : r ≤ e

module _ (d : ℕ) (k : Frame) (s : List ℕ) (at e : ℕ) (nz : d ≡ 0 → ⊥) (h : at < e) (i : e ≤ length s) (z : (walk d k (part s at e)).1 ≡ 0) where
  -- where the value stands
  abbrev place : ℕ
  place = at + size_taken (head_of k (part s at e))

  unbad : child_of k (part s at e) ≡ bad → ⊥
  unbad c = let y = ap (λ (w : Walked). w.1) (bad_turn d k s at e nz h i c) in omega arith

  pub head_here : head_of k (part s at e) ≡ some (head_at k (part s at e), size_taken (head_of k (part s at e)))
  head_here = go (head_of k (part s at e)) refl
    where
      go : (o : Option (Head × ℕ)) → head_of k (part s at e) ≡ o → o ≡ some (reading o (none, []) (λ h n. h), size_taken o)
      go none q = absurd (unbad (child_headless k s at e q))
      go (some (a, n)) q = refl

  head-place : place_of at (head_of k (part s at e)) ≡ Some place
  head-place = ap (place_of at) head_here

  value_here : value_of (free_at k (part s at e)) (part s place e) ≡ absent → ⊥
  value_here q = unbad (child_is k s at e place (head-within k s at e place (omega arith) i head-place).0 head-place absent q)

  pub turn_here : Turn d k s at e place (place + size_at (part s place e))
  unfolding node_at size_at problem_at
  turn_here = go (value_of (free_at k (part s at e)) (part s place e)) refl (value_sound (free_at k (part s at e)) (part s place e))
    where
      w : (at ≤ place) × (place ≤ e)
      w = head-within k s at e place (omega arith) i head-place

      l : List ℕ
      l = part s place e

      -- the value, where a marker may stand too
      same : (v : Value) → value_of (free_at k (part s at e)) l ≡ v → value_of true l ≡ v
      same v q = free_any (free_at k (part s at e)) l value_here ∙ q

      go : (v : Value) → value_of (free_at k (part s at e)) l ≡ v → SoundV l v → Turn d k s at e place (place + size_at l)
      go absent q t = absurd (value_here q)
      go (leaf v n) q (a_leaf p m f) =
          let a = w.0 in
          let b = w.1 in
          let len = part_length s place e i in
          let size : size_at l ≡ n = ap size_is (same (leaf v n) q) in
          let u : place - at + n ≡ place + size_at l - at = omega arith in
          let step = single_step d k s at e nz h i v (place + size_at l) (omega arith) (child_is k s at e place a head-place (leaf v n) q ∙ ap (single (head_at k (part s at e)) v) u) in
          let all = join-zero (head_fault (head_at k (part s at e))) (fault v) (walk d k (part s (place + size_at l) e)).1 (sym (ap (λ (w : Walked). w.1) step) ∙ z) in
          record {
            within = b;
            value = ap (problem_is (d - 1) l) (same (leaf v n) q);
            nodes = ap (λ (w : Walked). w.0) step ∙ ap (λ (x : Node). more (head_at k (part s at e)) x (walk d k (part s (place + size_at l) e)).0) (sym (ap (node_is (d - 1) l) (same (leaf v n) q)));
            fine = all.2;
            forth = omega arith;
            behind = omega arith;
          }
      go (body f n) q (a_body m g) =
          let a = w.0 in
          let b = w.1 in
          let len = part_length s place e i in
          let size : size_at l ≡ 5 + n = ap size_is (same (body f n) q) in
          let stop : place + size_at l ≡ place + 5 + n = omega arith in
          let u = tree_turn d k s at e nz h i place a b head-place f n q in
          let inner : take n (drop 5 l) ≡ part s (place + 5) (place + 5 + n) = part-inner s place e 5 n (omega arith) in
          let rest = ap (λ (r : ℕ). walk d k (part s r e)) stop in
          let all = join-zero (head_fault (head_at k (part s at e))) (walk (d - 1) f (part s (place + 5) (place + 5 + n))).1 (walk d k (part s (place + 5 + n) e)).1 (sym (ap (λ (w : Walked). w.1) u.step) ∙ z) in
          record {
            within = b;
            value = (ap (problem_is (d - 1) l) (same (body f n) q)) ∙ ap (λ (x : List ℕ). (walk (d - 1) f x).1) inner ∙ all.1;
            nodes = ap (λ (w : Walked). w.0) u.step
                ∙ ap (λ (x : List ℕ). more (head_at k (part s at e)) (nest f (walk (d - 1) f x).0) (walk d k (part s (place + 5 + n) e)).0) (sym inner)
                ∙ ap (λ (x : Node). more (head_at k (part s at e)) x (walk d k (part s (place + 5 + n) e)).0) (sym (ap (node_is (d - 1) l) (same (body f n) q)))
                ∙ ap (λ (w : Walked). more (head_at k (part s at e)) (node_at (d - 1) l) w.0) (sym rest);
            fine = ap (λ (w : Walked). w.1) rest ∙ all.2;
            forth = omega arith;
            behind = omega arith;
          }
