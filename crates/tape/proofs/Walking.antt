-- The walk, a child at a time; an accepted body, and an accepted tape, is the encoding of its nodes. Assumes nothing.
use Prim.Native.Nat.{ℕ, zero, suc, ◌+◌, ◌-◌, ◌<◌, ◌≤◌}
use mathlib.Core.Path.{◌≡◌, refl, sym, ap, ◌∙◌}
use mathlib.Core.List.{List, [], ◌∷◌, ◌++◌, append_assoc}
use mathlib.Core.Bool.{Bool, true, false, ◌||◌, not}
use mathlib.Core.Option.{some}
use native.Mathlib.Omega.{arith}
use native.Mathlib.Nat.{not-suc-le-zero}
use lib.Dec.{ltb, eqb}
use lib.ListN.{length, take, drop, length-drop, take-append-drop}
use lib.Seq.{length-take-le, take-add, take_all, drop-drop}
use borrow.Author.Tests.{ltb-false, eqb-true, not-false}
use Rattle.output.specs.Logic.{if}
use Rattle.output.specs.Wrote.{le_bytes}
use Rattle.tape.specs.Bytes.{le_number, first}
use Rattle.tape.specs.Tree.{Head, Node, Nodes, nest, nil, size, tag, encode_head, encodes, tape}
use Rattle.tape.specs.Tape.{head_of, Value, absent, leaf, body, value_of, Child, bad, single, tree, free_at, headed_child, child_of, head_fault, Walked, fault, join, turn, level, walk, body_of, nodes_of}
use Rattle.tape.specs.Fine.{Bytes}
use Rattle.tape.specs.Verdict.{misfit, count_fault, verdict}
use Rattle.tape.specs.declared.Frame.{Frame}
use Rattle.tape.specs.declared.Frame.TheVariants.{Top}
use Rattle.text_rules.proofs.DigitLaws.{never}
use Rattle.tape.proofs.Numbers.{bytes_drop, bytes_take, le_back}
use Rattle.tape.proofs.Reading.{SoundC, a-single, a_tree, child_sound}

-- ---- a child at a time

skip : (inner : Frame → List ℕ → Walked) (k : Frame) (n : ℕ) (l : List ℕ) → level inner k n l ≡ level inner k 0 (drop n l)
unfolding level
skip inner k zero [] = refl
skip inner k zero (x ∷ l) = refl
skip inner k (suc n) [] = refl
skip inner k (suc n) (x ∷ l) = skip inner k n l

-- the rest of a body, behind n bytes of it
pass : (inner : Frame → List ℕ → Walked) (k : Frame) (n : ℕ) (x : ℕ) (l : List ℕ) → 0 < n → level inner k (n - 1) l ≡ level inner k 0 (drop n (x ∷ l))
unfolding level
pass inner k zero x l h = absurd (not-suc-le-zero h)
pass inner k (suc n) x l h = let e : suc n - 1 ≡ n = omega arith in ap (λ (i : ℕ). level inner k i l) e ∙ skip inner k n l

module _ (k : Frame) (d : ℕ) (l : List ℕ) (nz : d ≡ 0 → ⊥) where
  pub walk_end : length l ≤ 0 → walk d k l ≡ (nil, 0)
  unfolding walk level
  walk_end h = go d l nz h
    where
      go : (d : ℕ) (l : List ℕ) → (d ≡ 0 → ⊥) → length l ≤ 0 → walk d k l ≡ (nil, 0)
      go zero l nz h = absurd (nz refl)
      go (suc d) [] nz h = refl
      go (suc d) (x ∷ l) nz h = absurd (not-suc-le-zero h)

  pub walk_bad : 0 < length l → child_of k l ≡ bad → walk d k l ≡ (nil, 2)
  unfolding walk level
  walk_bad h e = go d l nz h e
    where
      go : (d : ℕ) (l : List ℕ) → (d ≡ 0 → ⊥) → 0 < length l → child_of k l ≡ bad → walk d k l ≡ (nil, 2)
      go zero l nz h e = absurd (nz refl)
      go (suc d) [] nz h e = absurd (not-suc-le-zero h)
      go (suc d) (x ∷ l) nz h e = ap (λ (c : Child). turn (walk d) c (x ∷ l) (λ m. level (walk d) k (m - 1) l)) e

  -- a problem in a head comes before all that stands behind it
  pub walk-headed : 0 < length l → (h : Head) (n : ℕ) → head_of k l ≡ some (h, n) → head_fault h ≡ 2 → (walk d k l).1 ≡ 2
  unfolding walk level child_of
  walk-headed i h n e z = go d l nz i e
    where
      by : (inner : Frame → List ℕ → Walked) (v : Value) (l : List ℕ) (rest : ℕ → Walked) → (turn inner (headed_child h n v) l rest).1 ≡ 2
      by inner absent l rest = refl
      by inner (leaf v m) l rest = rw z
      by inner (body f m) l rest = rw z

      go : (d : ℕ) (l : List ℕ) → (d ≡ 0 → ⊥) → 0 < length l → head_of k l ≡ some (h, n) → (walk d k l).1 ≡ 2
      go zero l nz i e = absurd (nz refl)
      go (suc d) [] nz i e = absurd (not-suc-le-zero i)
      go (suc d) (x ∷ l) nz i e = rw e (by (walk d) (value_of (free_at k (x ∷ l)) (drop n (x ∷ l))) (x ∷ l) (λ m. level (walk d) k (m - 1) l))

  pub walk_leaf : (h : Head) (n : Node) (m : ℕ) → 0 < length l → 0 < m → child_of k l ≡ single h n m → walk d k l ≡ join h n (fault n) (walk d k (drop m l))
  unfolding walk level
  walk_leaf h n m i p e = go d l nz i e
    where
      go : (d : ℕ) (l : List ℕ) → (d ≡ 0 → ⊥) → 0 < length l → child_of k l ≡ single h n m → walk d k l ≡ join h n (fault n) (walk d k (drop m l))
      go zero l nz i e = absurd (nz refl)
      go (suc d) [] nz i e = absurd (not-suc-le-zero i)
      go (suc d) (x ∷ l) nz i e =
          ap (λ (c : Child). turn (walk d) c (x ∷ l) (λ m. level (walk d) k (m - 1) l)) e ∙ ap (join h n (fault n)) (pass (walk d) k m x l p)

  pub walk_tree : (h : Head) (f : Frame) (q m : ℕ) → 0 < length l → 0 < q → child_of k l ≡ tree h f q m
      → walk d k l ≡ join h (nest f (walk (d - 1) f (take m (drop q l))).0) (walk (d - 1) f (take m (drop q l))).1 (walk d k (drop (q + m) l))
  unfolding walk level
  walk_tree h f q m i p e = go d l nz i e
    where
      go : (d : ℕ) (l : List ℕ) → (d ≡ 0 → ⊥) → 0 < length l → child_of k l ≡ tree h f q m
          → walk d k l ≡ join h (nest f (walk (d - 1) f (take m (drop q l))).0) (walk (d - 1) f (take m (drop q l))).1 (walk d k (drop (q + m) l))
      go zero l nz i e = absurd (nz refl)
      go (suc d) [] nz i e = absurd (not-suc-le-zero i)
      go (suc d) (x ∷ l) nz i e =
          let down : d ≡ suc d - 1 = omega arith in
          let b : List ℕ = take m (drop q (x ∷ l)) in
          ap (λ (c : Child). turn (walk d) c (x ∷ l) (λ m. level (walk d) k (m - 1) l)) e
          ∙ ap (join h (nest f (walk d f b).0) (walk d f b).1) (pass (walk d) k (q + m) x l (omega arith))
          ∙ ap (λ (j : ℕ). join h (nest f (walk j f b).0) (walk j f b).1 (walk (suc d) k (drop (q + m) (x ∷ l)))) down

-- ---- an accepted body is the encoding of its nodes

pub first-zero : (a b : ℕ) → first a b ≡ 0 → (a ≡ 0) × (b ≡ 0)
first-zero zero b e = (refl, e)
first-zero (suc a) b e = absurd (omega arith)

-- a joined child has no problem: the head, the value and the rest have none
pub join-zero : (a b c : ℕ) → first (first a b) c ≡ 0 → (a ≡ 0) × (b ≡ 0) × (c ≡ 0)
join-zero a b c e = let p = first-zero (first a b) c e in let q = first-zero a b p.0 in (q.0, q.1, p.1)

abbrev Back : (Frame → List ℕ → Walked) → Type 0
Back inner = (k : Frame) (l : List ℕ) → Bytes l → (inner k l).1 ≡ 0 → encodes (inner k l).0 ≡ l

turn_back : (inner : Frame → List ℕ → Walked) → Back inner → (l : List ℕ) (c : Child) → SoundC l c → (rest : ℕ → Walked)
    → ((m : ℕ) → 0 < m → (rest m).1 ≡ 0 → encodes (rest m).0 ≡ drop m l) → Bytes l → (turn inner c l rest).1 ≡ 0 → encodes (turn inner c l rest).0 ≡ l
unfolding encodes
turn_back inner ih l bad s rest r b z = absurd (omega arith)
turn_back inner ih l (single h n m) (a-single p i e) rest r b z =
    let y = join-zero (head_fault h) (fault n) (rest m).1 z in
    ap (λ (x : List ℕ). x ++ encodes (rest m).0) (e b) ∙ ap (λ (x : List ℕ). take m l ++ x) (r m p y.2) ∙ take-append-drop m l
turn_back inner ih l (tree h k q m) (a_tree p i e) rest r b z =
    let d = length-drop q l in
    let u : List ℕ = take m (drop q l) in
    let w : Nodes = (inner k u).0 in
    let y = join-zero (head_fault h) (inner k u).1 (rest (q + m)).1 z in
    let t : encodes w ≡ u = ih k u (bytes_take m _ (bytes_drop q l b)) y.1 in
    let n : length (encodes w) ≡ m = ap length t ∙ length-take-le m (drop q l) (omega arith) in
    ap (λ (x : ℕ). (encode_head h ++ (tag k ∷ (le_bytes 4 x ++ encodes w))) ++ encodes (rest (q + m)).0) n
    ∙ ap (λ (x : List ℕ). (encode_head h ++ (tag k ∷ (le_bytes 4 m ++ x))) ++ encodes (rest (q + m)).0) t
    ∙ ap (λ (x : List ℕ). x ++ encodes (rest (q + m)).0) (sym (append_assoc (encode_head h) (tag k ∷ le_bytes 4 m) u))
    ∙ ap (λ (x : List ℕ). (x ++ u) ++ encodes (rest (q + m)).0) (e b)
    ∙ ap (λ (x : List ℕ). (take q l ++ u) ++ x) (r (q + m) (omega arith) y.2)
    ∙ ap (λ (x : List ℕ). x ++ drop (q + m) l) (sym (take-add q m l))
    ∙ take-append-drop (q + m) l

pub dropped : (x : ℕ) (l : List ℕ) (m : ℕ) → 0 < m → drop (m - 1) l ≡ drop m (x ∷ l)
dropped x l zero p = absurd (not-suc-le-zero p)
dropped x l (suc m) p = let e : suc m - 1 ≡ m = omega arith in ap (λ (i : ℕ). drop i l) e

level_back : (inner : Frame → List ℕ → Walked) → Back inner → (k : Frame) (n : ℕ) (l : List ℕ) → Bytes l → (level inner k n l).1 ≡ 0 → encodes (level inner k n l).0 ≡ drop n l
unfolding level encodes
level_back inner ih k zero [] b z = refl
level_back inner ih k (suc n) [] b z = refl
level_back inner ih k (suc n) (x ∷ l) b z = level_back inner ih k n l (λ i. b (suc i)) z
level_back inner ih k zero (x ∷ l) b z =
    turn_back inner ih (x ∷ l) (child_of k (x ∷ l)) (child_sound k (x ∷ l)) (λ m. level inner k (m - 1) l) (λ m p y. level_back inner ih k (m - 1) l (λ i. b (suc i)) y ∙ dropped x l m p) b z

-- THE FIRST THEOREM
pub walk_back : (d : ℕ) → Back (walk d)
unfolding walk
walk_back zero k l b z = absurd (omega arith)
walk_back (suc d) k l b z = level_back (walk d) (walk_back d) k 0 l b z

-- ---- where nothing is wrong, more bodies that may be opened change nothing

abbrev Deeper : (Frame → List ℕ → Walked) → (Frame → List ℕ → Walked) → Type 0
Deeper inner inner' = (k : Frame) (l : List ℕ) → (inner k l).1 ≡ 0 → inner' k l ≡ inner k l

turn-deeper : (inner inner' : Frame → List ℕ → Walked) → Deeper inner inner' → (c : Child) (l : List ℕ) (rest rest' : ℕ → Walked) → ((m : ℕ) → (rest m).1 ≡ 0 → rest' m ≡ rest m)
    → (turn inner c l rest).1 ≡ 0 → turn inner' c l rest' ≡ turn inner c l rest
turn-deeper inner inner' i bad l rest rest' r z = absurd (omega arith)
turn-deeper inner inner' i (single h n m) l rest rest' r z = ap (join h n (fault n)) (r m (join-zero (head_fault h) (fault n) (rest m).1 z).2)
turn-deeper inner inner' i (tree h k q m) l rest rest' r z =
    let u : List ℕ = take m (drop q l) in
    let y = join-zero (head_fault h) (inner k u).1 (rest (q + m)).1 z in
    ap (λ (w : Walked). join h (nest k w.0) w.1 (rest' (q + m))) (i k u y.1) ∙ ap (join h (nest k (inner k u).0) (inner k u).1) (r (q + m) y.2)

level-deeper : (inner inner' : Frame → List ℕ → Walked) → Deeper inner inner' → (k : Frame) (n : ℕ) (l : List ℕ) → (level inner k n l).1 ≡ 0 → level inner' k n l ≡ level inner k n l
unfolding level
level-deeper inner inner' i k zero [] z = refl
level-deeper inner inner' i k (suc n) [] z = refl
level-deeper inner inner' i k (suc n) (x ∷ l) z = level-deeper inner inner' i k n l z
level-deeper inner inner' i k zero (x ∷ l) z =
    turn-deeper inner inner' i (child_of k (x ∷ l)) (x ∷ l) (λ m. level inner k (m - 1) l) (λ m. level inner' k (m - 1) l) (λ m y. level-deeper inner inner' i k (m - 1) l y) z

pub walk-deeper : (d e : ℕ) → d ≤ e → Deeper (walk d) (walk e)
unfolding walk
walk-deeper zero e h k l z = absurd (omega arith)
walk-deeper (suc d) zero h k l z = absurd (not-suc-le-zero h)
walk-deeper (suc d) (suc e) h k l z = level-deeper (walk d) (walk e) (walk-deeper d e (omega arith)) k 0 l z

-- ---- whole tapes

-- what is known of a tape that is accepted
pub record Accepted (t : List ℕ) : Type 0 where
  pub least : 8 ≤ length t
  pub most : length t ≤ 1048576
  pub body : le_number 4 (drop (length t - 8) t) + 8 ≡ length t
  pub nodes : (body_of t).1 ≡ 0
  pub count : le_number 4 (drop (length t - 4) t) ≡ size (body_of t).0

or-false : (a b : Bool) → a || b ≡ false → (a ≡ false) × (b ≡ false)
or-false false false e = (refl, refl)
or-false false true e = never e
or-false true b e = never e

if_zero : (b : Bool) (p n : ℕ) → if b (suc p) n ≡ 0 → (b ≡ false) × (n ≡ 0)
if_zero true p n e = absurd (omega arith)
if_zero false p n e = (refl, e)

pub if_zero_else : (b : Bool) (p : ℕ) → if b 0 (suc p) ≡ 0 → b ≡ true
if_zero_else true p e = refl
if_zero_else false p e = absurd (omega arith)

pub verdict-told : (t : List ℕ) → verdict t ≡ 0 → Accepted t
unfolding verdict misfit count_fault
verdict-told t e =
    let f = if_zero (misfit t) 0 (first (body_of t).1 (count_fault t)) e in
    let g = or-false (ltb (length t) 8 || ltb 1048576 (length t)) (not (eqb (le_number 4 (drop (length t - 8) t) + 8) (length t))) f.0 in
    let h = or-false (ltb (length t) 8) (ltb 1048576 (length t)) g.0 in
    let i = first-zero (body_of t).1 (count_fault t) f.1 in
    record {
      least = ltb-false _ _ h.0;
      most = ltb-false _ _ h.1;
      body = eqb-true _ _ (not-false _ g.1);
      nodes = i.0;
      count = eqb-true _ _ (if_zero_else (eqb (le_number 4 (drop (length t - 4) t)) (size (body_of t).0)) 1 i.1);
    }

pub tape_back : (t : List ℕ) → Bytes t → verdict t ≡ 0 → tape (nodes_of t) ≡ t
unfolding tape nodes_of body_of
tape_back t b e =
    let a = verdict-told t e in
    let g = a.least in
    let n : ℕ = length t - 8 in
    let ns : Nodes = nodes_of t in
    let front : encodes ns ≡ take n t = walk_back 65 Top (take n t) (bytes_take n t b) a.nodes in
    let long : length (encodes ns) ≡ le_number 4 (drop n t) = let c = a.body in ap length front ∙ length-take-le n t (omega arith) ∙ omega arith in
    let mid : le_bytes 4 (length (encodes ns)) ≡ take 4 (drop n t) = ap (le_bytes 4) long ∙ le_back 4 (drop n t) (bytes_drop n t b) (rw (length-drop n t) (omega arith)) in
    let four : n + 4 ≡ length t - 4 = omega arith in
    let back : le_bytes 4 (size ns) ≡ drop 4 (drop n t) =
    ap (le_bytes 4) (sym a.count)
    ∙ le_back 4 (drop (length t - 4) t) (bytes_drop (length t - 4) t b) (rw (length-drop (length t - 4) t) (omega arith))
    ∙ take_all 4 (drop (length t - 4) t) (rw (length-drop (length t - 4) t) (omega arith))
    ∙ ap (λ (i : ℕ). drop i t) (sym four)
    ∙ sym (drop-drop 4 n t) in
    ap (λ (x : List ℕ). x ++ le_bytes 4 (length (encodes ns)) ++ le_bytes 4 (size ns)) front
    ∙ ap (λ (x : List ℕ). take n t ++ x ++ le_bytes 4 (size ns)) mid
    ∙ ap (λ (x : List ℕ). take n t ++ take 4 (drop n t) ++ x) back
    ∙ append_assoc (take n t) (take 4 (drop n t)) (drop 4 (drop n t))
    ∙ ap (λ (x : List ℕ). take n t ++ x) (take-append-drop 4 (drop n t))
    ∙ take-append-drop n t
