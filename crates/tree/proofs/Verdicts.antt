-- The refusals of a tape, what the tree writer answers and leaves, and what it says of a text's length. Assumes nothing.
use Prim.Native.Nat.{ℕ, suc, ◌+◌, ◌-◌, ◌<◌, ◌≤◌}
use mathlib.Core.Path.{◌≡◌, refl, sym, ap, subst, ◌∙◌}
use mathlib.Core.List.{List, [], ◌∷◌}
use mathlib.Core.Bool.{Bool, true, false, ◌||◌}
use mathlib.Core.Option.{Option, none, some}
use native.Mathlib.Nat.{not-suc-le-zero}
use native.Mathlib.Omega.{arith}
use native.Mathlib.Decide.{dec_le}
use lib.Dec.{eqb}
use lib.ListN.{length, get_or, take, drop}
use lib.Seq.{length-take-le, get_or-take}
use borrow.Author.Tests.{eq-eqb, ne_eqb, eqb-true, eqb-false}
use Rattle.output.specs.Logic.{if}
use Rattle.output.specs.Wrote.{limit, Wrote}
use Rattle.text_rules.specs.Text.{Sym}
use Rattle.tape.specs.Bytes.{part, first}
use Rattle.tape.specs.Tree.{Head, Nodes, marker, nil, more, size}
use Rattle.tape.specs.Tape.{reading, kind, name_of, head_of, Value, absent, leaf, body, value_of, Child, bad, single, tree, free_at, headed_child, child_of, Walked, turn, level, walk, body_of, nodes_of}
use Rattle.tape.specs.Verdict.{verdict}
use Rattle.tape.specs.Fine.{Bytes}
use Rattle.tape.specs.Refusal.{numbereds}
use Rattle.tape.specs.Answer.{counted, refused}
use Rattle.tape.specs.declared.Frame.{Frame}
use Rattle.tape.specs.declared.Frame.TheVariants.{Top}
use Rattle.tape.proofs.Reading.{value-all}
use Rattle.tape.proofs.Walking.{first-zero, verdict-told, walk_end}
use Rattle.tape.proofs.CodeReading.{value_marker, notes-none}
use Rattle.tape.proofs.CodeFacts.{first_inner}
use Rattle.tape.proofs.FineBack.{tape_fine}
use Rattle.writer.specs.Steps.{items}
use Rattle.tape.proofs.Verdicts.{nodes_walked}
use Rattle.writer.proofs.Verdicts.{answered-refused, left_kept, wrote_laid, wrote_counted, wrote_clipped}
use Rattle.measure.specs.Sums.{contents, separators, lasts}
use Rattle.measure.proofs.TextSums.{tree_sums}
use Rattle.measure.proofs.Bound.{tape_most}
use Rattle.measure.proofs.Verdicts.{Summed}
use Rattle.tree.specs.Text.{tree_text}
use Rattle.tree.specs.Outcome.{is_marker, unsuited, refusal, written_with, leaves_with, tree_length_with}
use Rattle.tree.proofs.Texts.{items_tree}

-- ---- the first node is the marker exactly where the first byte is 14

abbrev value_marked : Value → Bool
value_marked absent = false
value_marked (leaf n m) = is_marker n
value_marked (body k m) = false

value_unmarked : (f : Bool) (l : List ℕ) → eqb (kind l) 14 ≡ false → value_marked (value_of f l) ≡ false
value_unmarked f l e = value-all (λ (v : Value). value_marked v ≡ false) f l refl (λ k _ _ _. refl) (λ k _. absurd (eqb-false _ _ e k)) (λ s n _. refl)

value-marked : (f : Bool) (l : List ℕ) → value_marked (value_of f l) ≡ if (eqb (kind l) 14) f false
value-marked f l = go (eqb (kind l) 14) refl
  where
    chosen : (f : Bool) → value_marked (if f (leaf marker 1) absent) ≡ f
    chosen true = refl
    chosen false = refl

    go : (b : Bool) → eqb (kind l) 14 ≡ b → value_marked (value_of f l) ≡ if b f false
    go true e = ap value_marked (value_marker f l (eqb-true _ _ e)) ∙ chosen f
    go false e = value_unmarked f l e

abbrev child_marked : Child → Bool
child_marked bad = false
child_marked (single h n m) = is_marker n
child_marked (tree h k q m) = false

behind-marked : (h : Head) (n : ℕ) (v : Value) → child_marked (headed_child h n v) ≡ value_marked v
behind-marked h n absent = refl
behind-marked h n (leaf x m) = refl
behind-marked h n (body k m) = refl

-- without annotations the head at top level is empty
head-top : (l : List ℕ) → (kind l ≡ 13 → ⊥) → head_of Top l ≡ some ((none, []), 0)
unfolding head_of name_of
head-top l h = ap (λ (o : Option (List Sym × ℕ)). reading {B = Option (Head × ℕ)} o none (λ ss m. some ((none, ss), 0 + m))) (notes-none l h)

child-marked : (l : List ℕ) → child_marked (child_of Top l) ≡ eqb (kind l) 14
unfolding child_of free_at
child-marked l = go (eqb (kind l) 13) refl
  where
    same : (b : Bool) → if b true false ≡ b
    same true = refl
    same false = refl

    neither : (b : Bool) → if b false false ≡ false
    neither true = refl
    neither false = refl

    noted : (o : Option (Head × ℕ)) → child_marked (reading o bad (λ h n. headed_child h n (value_of false (drop n l)))) ≡ false
    noted none = refl
    noted (some (h, n)) = behind-marked h n (value_of false (drop n l)) ∙ value-marked false (drop n l) ∙ neither (eqb (kind (drop n l)) 14)

    go : (b : Bool) → eqb (kind l) 13 ≡ b → child_marked (reading (head_of Top l) bad (λ h n. headed_child h n (value_of (if b false true) (drop n l)))) ≡ eqb (kind l) 14
    go true e = let k : kind l ≡ 13 = eqb-true _ _ e in noted (head_of Top l) ∙ sym (ne_eqb (kind l) 14 (λ i. omega arith))
    go false e =
        ap (λ (o : Option (Head × ℕ)). child_marked (reading o bad (λ h n. headed_child h n (value_of true (drop n l))))) (head-top l (eqb-false _ _ e))
        ∙ behind-marked (none, []) 0 (value_of true l)
        ∙ value-marked true l
        ∙ same (eqb (kind l) 14)

abbrev first_marked : Nodes → Bool
first_marked nil = false
first_marked (more h n ns) = is_marker n

turn-marked : (inner : Frame → List ℕ → Walked) (c : Child) (l : List ℕ) (rest : ℕ → Walked) → first_marked (turn inner c l rest).0 ≡ child_marked c
turn-marked inner bad l rest = refl
turn-marked inner (single h n m) l rest = refl
turn-marked inner (tree h k q m) l rest = refl

walk-marked : (d : ℕ) (l : List ℕ) → 0 < length l → first_marked (walk (suc d) Top l).0 ≡ eqb (kind l) 14
unfolding walk level
walk-marked d [] h = absurd (not-suc-le-zero h)
walk-marked d (x ∷ l) h = turn-marked (walk d) (child_of Top (x ∷ l)) (x ∷ l) (λ m. level (walk d) Top (m - 1) l) ∙ child-marked (x ∷ l)

tape-first : (t : List ℕ) → size (body_of t).0 ≡ 1 → first_marked (body_of t).0 ≡ eqb (get_or t 0 0) 14
unfolding body_of size
tape-first t s = go (dec_le (length t - 8) 0)
  where
    n : length (take (length t - 8) t) ≡ length t - 8
    n = length-take-le (length t - 8) t (omega arith)

    go : Dec (length t - 8 ≤ 0) → first_marked (walk 65 Top (take (length t - 8) t)).0 ≡ eqb (get_or t 0 0) 14
    go (yes h) =
        let e = walk_end Top 65 (take (length t - 8) t) (λ z. omega arith) (omega (arith, n)) in
        let z : ◌≡◌ {A = ℕ} 0 1 = sym (ap (λ (w : Walked). size w.0) e) ∙ s in
        absurd (omega arith)
    go (no h) = walk-marked 64 (take (length t - 8) t) (omega (arith, n)) ∙ ap (λ (i : ℕ). eqb i 14) (get_or-take (length t - 8) t 0 0 (omega arith))

-- ---- the refusal that comes before measuring

many : (ns : Nodes) → (size ns ≡ 1 → ⊥) → unsuited ns ≡ true
unfolding unsuited size
many nil h = refl
many (more h n nil) nz = absurd (nz refl)
many (more h n (more g m ns)) nz = refl

numbered_one : (ns : Nodes) → numbereds ns ≡ true → unsuited ns ≡ true
unfolding unsuited
numbered_one nil e = refl
numbered_one (more h n nil) e = rw e (go (is_marker n))
  where
    go : (b : Bool) → b || true ≡ true
    go true = refl
    go false = refl
numbered_one (more h n (more g m ns)) e = refl

one : (ns : Nodes) → size ns ≡ 1 → numbereds ns ≡ false → unsuited ns ≡ first_marked ns
unfolding unsuited size
one nil s e = absurd (omega arith)
one (more h n nil) s e = rw e (go (is_marker n))
  where
    go : (b : Bool) → b || false ≡ b
    go true = refl
    go false = refl
one (more h n (more g m ns)) s e = absurd (omega arith)

module _ (t : List ℕ) where
  pub tape_bad : (verdict t ≡ 0 → ⊥) → refusal t ≡ verdict t
  unfolding refusal
  tape_bad nz = first_inner _ _ nz

  module _ (z : verdict t ≡ 0) where
    refusal-by : (b : Bool) → unsuited (body_of t).0 ≡ b → refusal t ≡ if b 5 0
    unfolding refusal nodes_of
    refusal-by b e = ap (λ (b : Bool). first (verdict t) (if b 5 0)) e ∙ ap (λ (i : ℕ). first i (if b 5 0)) z

    pub tape-many : (size (body_of t).0 ≡ 1 → ⊥) → refusal t ≡ 5
    tape-many nz = refusal-by true (many _ nz)

    pub tape_numbered : numbereds (body_of t).0 ≡ true → refusal t ≡ 5
    tape_numbered e = refusal-by true (numbered_one _ e)

    module _ (s : size (body_of t).0 ≡ 1) (e : numbereds (body_of t).0 ≡ false) where
      pub tape-marked : get_or t 0 0 ≡ 14 → refusal t ≡ 5
      tape-marked k = refusal-by true (one _ s e ∙ tape-first t s ∙ eq-eqb _ _ k)

      pub tape_good : (get_or t 0 0 ≡ 14 → ⊥) → refusal t ≡ 0
      tape_good k = refusal-by false (one _ s e ∙ tape-first t s ∙ ne_eqb _ _ k)

-- ---- answers and buffers

module _ (quoted : Bool) (t : List ℕ) (f : ℕ) (nz : f ≡ 0 → ⊥) (e : refusal t ≡ f) where
  pub refused-by : (n : ℕ) → refused f ≡ written_with quoted t n
  unfolding written_with
  refused-by n = rw e (answered-refused f nz _)

  pub kept_by : (b : List ℕ) → b ≡ leaves_with quoted t b
  unfolding leaves_with
  kept_by b = rw e (left_kept f nz _ b)

module _ (quoted : Bool) (t b b' : List ℕ) (r : ℕ) (m : Bytes t) (v : verdict t ≡ 0) (o : size (body_of t).0 ≡ 1) (e : refusal t ≡ 0) (w : Wrote b b' 0 r (items quoted 3 Top 0 (walk 65 Top (part t 0 (length t - 8))).0)) where
  whole : Wrote b b' 0 r (tree_text quoted (nodes_of t))
  unfolding nodes_of
  whole = subst (Wrote b b' 0 r) (ap (items quoted 3 Top 0) (nodes_walked t) ∙ items_tree quoted 64 (nodes_of t) (tape_fine t m v) o) w

  pub laid_by : b' ≡ leaves_with quoted t b
  unfolding leaves_with
  laid_by = rw e (wrote_laid whole)

  pub counted_by : r ≤ length b → counted r ≡ written_with quoted t (length b)
  unfolding written_with
  counted_by h = rw e (wrote_counted whole h)

  pub clipped_by : length b < r → refused 6 ≡ written_with quoted t (length b)
  unfolding written_with
  clipped_by h = rw e (wrote_clipped whole h)

-- ---- lengths

pub length-refused : (quoted : Bool) (t : List ℕ) (f : ℕ) → (f ≡ 0 → ⊥) → refusal t ≡ f → refused f ≡ tree_length_with quoted t
unfolding tree_length_with
length-refused quoted t f nz e = rw e (answered-refused f nz _)

-- the text has its contents, and its separators but those behind the last child of a body
text_long : (quoted : Bool) (t : List ℕ) → Bytes t → verdict t ≡ 0 → size (nodes_of t) ≡ 1 → length (tree_text quoted (nodes_of t)) + lasts Top (nodes_of t) ≡ contents quoted (nodes_of t) + separators Top (nodes_of t)
text_long quoted t m v o =
    let w = ap (λ (l : List ℕ). length l) (items_tree quoted 64 (nodes_of t) (tape_fine t m v) o) in
    let n = tree_sums quoted (nodes_of t) in
    omega arith

pub length_counted : (quoted : Bool) (t a : List ℕ) → Bytes t → verdict t ≡ 0 → size (body_of t).0 ≡ 1 → refusal t ≡ 0 → Summed quoted t a → counted (get_or a 0 0 + (get_or a 1 0 - get_or a 2 0)) ≡ tree_length_with quoted t
unfolding tree_length_with nodes_of
length_counted quoted t a m v o e s =
    let n = text_long quoted t m v o in
    let c = s.contents in
    let g = s.separators in
    let b = s.lasts in
    let f = s.fewer in
    let l : get_or a 0 0 + (get_or a 1 0 - get_or a 2 0) ≡ length (tree_text quoted (nodes_of t)) = omega arith in
    rw e (ap counted l)

-- a suited tape has one node
suited : (ns : Nodes) → if {A = ℕ} (unsuited ns) 5 0 ≡ 0 → size ns ≡ 1
unfolding unsuited size
suited nil e = absurd (omega arith)
suited (more h n nil) e = refl
suited (more h n (more g m ns)) e = absurd (omega arith)

-- a text that is told is not too long
pub length-small : (quoted : Bool) (t : List ℕ) → Bytes t → refusal t ≡ 0 → length (tree_text quoted (nodes_of t)) < limit
unfolding refusal
length-small quoted t m e =
    let z = first-zero (verdict t) (if (unsuited (nodes_of t)) 5 0) e in
    let n = text_long quoted t m z.0 (suited (nodes_of t) z.1) in
    let p = tape_most quoted t m z.0 in
    let most = (verdict-told t z.0).most in
    omega arith
