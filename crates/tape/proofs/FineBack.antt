-- What is accepted is well-formed. Assumes nothing.
use Prim.Native.Nat.{ℕ, zero, suc, ◌+◌, ◌-◌, ◌%◌, ◌^◌, ◌<◌, ◌≤◌}
use mathlib.Core.Path.{◌≡◌, refl, sym, subst}
use mathlib.Core.List.{List, [], ◌∷◌}
use mathlib.Core.Bool.{Bool, true, false}
use mathlib.Core.Option.{Option, none, some}
use native.Mathlib.Omega.{arith}
use lib.Dec.{T, leb, ltb, eqb}
use lib.Ieee.{Float, nan, inf, fin, binary64, fits, of_bits}
use lib.Ieee.Bits.{of_bits-fits}
use lib.ListN.{length, get_or, take, drop, length-take}
use mir.Syntax.{w32, w64}
use borrow.Author.Tests.{leb-true}
use Rattle.output.specs.Logic.{if}
use Rattle.text_rules.specs.Text.{Sym}
use Rattle.text_rules.specs.Utf8.{valid}
use Rattle.numbers.specs.Timestamp.{well_formed}
use Rattle.floats.specs.Value.{is_whole}
use Rattle.tape.specs.Bytes.{le_number}
use Rattle.tape.specs.Tree.{Scalar, Head, Node, symbol, string, clob, blob, scalar, nest, marker}
use Rattle.tape.specs.Tape.{reading, kind, length_of, text_of, sym_of, syms_of, name_of, notes_of, head_of, byte_of, int_of, float_as, float_of, decimal_of, timestamp_as, timestamp_of, symbol_of, sized_of, scalar_of, Value, absent, leaf, body, value_of, Child, bad, single, tree, free_at, headed_child, child_of, text_fault, sym_fault, syms_fault, name_fault, head_fault, float_fault, scalar_fault, Walked, fault, turn, level, walk, body_of, nodes_of}
use Rattle.tape.specs.Fine.{Bytes, FineBytes, FineText, FineSym, FineSyms, FineFloat, FineScalar, FineName, FineHead, FineMarker, Inner, Fine, Fines}
use Rattle.tape.specs.Verdict.{verdict}
use Rattle.tape.specs.declared.Frame.{Frame}
use Rattle.tape.specs.declared.Frame.TheVariants.{Top, List as ListF, Sexp, Struct}
use Rattle.text_rules.proofs.DigitLaws.{never}
use Rattle.tape.proofs.Numbers.{bytes_drop, bytes_take, le_bound, signed-fits}
use Rattle.tape.proofs.Reading.{if_all, Counted, counted, syms-count, value-all}
use Rattle.tape.proofs.Walking.{first-zero, join-zero, if_zero_else, walk_back, verdict-told}

-- what is said of what is read, if anything is
data Good {A : Type 0} (P : A → Type 0) : Option (A × ℕ) → Type 0 where
  good_none : Good P none
  good : {a : A} {n : ℕ} → P a → Good P (some (a, n))

told : {A : Type 0} {P : A → Type 0} {a : A} {n : ℕ} → Good P (some (a, n)) → P a
told (good p) = p

map_good : {A B : Type 0} (P : A → Type 0) (Q : B → Type 0) (f : A → B) → ((a : A) → P a → Q (f a)) → (o : Option (A × ℕ)) → Good P o → Good Q (reading o none (λ a n. some (f a, n)))
map_good P Q f h none g = good_none
map_good P Q f h (some (a, n)) (good p) = good (h a p)

-- one behind the other
module _ {A B C : Type 0} (P : A → Type 0) (Q : B → Type 0) (R : C → Type 0) (f : A → B → C) (h : (a : A) (b : B) → P a → Q b → R (f a b)) where
  then_good : (o : Option (A × ℕ)) (p : ℕ → Option (B × ℕ)) → Good P o → ((n : ℕ) → Good Q (p n)) → Good R (reading o none (λ a n. reading (p n) none (λ b m. some (f a b, n + m))))
  then_good none p g q = good_none
  then_good (some (a, n)) p (good x) q = inner (p n) (q n)
    where
      inner : (o : Option (B × ℕ)) → Good Q o → Good R (reading o none (λ b m. some (f a b, n + m)))
      inner none g = good_none
      inner (some (b, m)) (good y) = good (h a b x y)

-- ---- texts and symbols

pub text_fine : (s : List ℕ) → FineBytes s → text_fault s ≡ 0 → FineText s
unfolding text_fault
text_fine s b e = record { plain = b; utf8 = if_zero_else (valid s) 1 e }

text_good : (l : List ℕ) → Bytes l → Good FineBytes (text_of l)
unfolding text_of
text_good l b = if_all (Good FineBytes) {b = leb (5 + length_of l) (length l)} (λ _. good taken) (λ _. good_none)
  where
    taken : FineBytes (take (length_of l) (drop 5 l))
    taken =
        let u : length_of l < 2 ^ 32 = le_bound 4 (drop 1 l) (bytes_drop 1 l b) in
        let n = length-take (length_of l) (drop 5 l) in
        record { bytes = bytes_take (length_of l) (drop 5 l) (bytes_drop 5 l b); short = omega arith }

abbrev SymP : Sym → Type 0
SymP s = sym_fault s ≡ 0 → FineSym s

sym_good : (l : List ℕ) → Bytes l → Good SymP (sym_of l)
unfolding sym_of
sym_good l b =
    if_all (Good SymP) {b = eqb (kind l) 6} (λ _. map_good FineBytes SymP Sym.text text_fine (text_of l) (text_good l b)) (λ _.
    if_all (Good SymP) {b = eqb (kind l) 7} (λ _. if_all (Good SymP) {b = leb 5 (length l)} (λ _. good (λ _. le_bound 4 (drop 1 l) (bytes_drop 1 l b))) (λ _. good_none)) (λ _. good_none))

abbrev SymsP : List Sym → Type 0
SymsP ss = syms_fault ss ≡ 0 → FineSyms ss

syms_cons : (s : Sym) (ss : List Sym) → SymP s → SymsP ss → SymsP (s ∷ ss)
unfolding syms_fault
syms_cons s ss p q e = let z = first-zero (sym_fault s) (syms_fault ss) e in (p z.0, q z.1)

syms_good : (c : ℕ) (l : List ℕ) → Bytes l → Good SymsP (syms_of c l)
unfolding syms_of
syms_good zero l b = good (λ _. tt)
syms_good (suc c) l b = then_good SymP SymsP SymsP ◌∷◌ syms_cons (sym_of l) (λ n. syms_of c (drop n l)) (sym_good l b) (λ n. syms_good c (drop n l) (bytes_drop n l b))

-- ---- heads

abbrev NameP : Frame → Option Sym → Type 0
NameP k a = name_fault a ≡ 0 → FineName k a

name_good : (k : Frame) (l : List ℕ) → Bytes l → Good (NameP k) (name_of k l)
unfolding name_of
name_good Top l b = good (λ _. tt)
name_good ListF l b = good (λ _. tt)
name_good Sexp l b = good (λ _. tt)
name_good Struct l b = map_good SymP (NameP Struct) some (λ s p. p) (sym_of l) (sym_good l b)

abbrev NotesP : List Sym → Type 0
NotesP ss = syms_fault ss ≡ 0 → FineSyms ss × (length ss ≤ 16)

notes_good : (l : List ℕ) → Bytes l → Good NotesP (notes_of l)
unfolding notes_of
notes_good l b =
    if_all (Good NotesP) {b = eqb (kind l) 13}
    (λ _. if_all (Good NotesP) {b = leb 1 (get_or l 1 0)} (λ _. if_all (Good NotesP) {b = leb (get_or l 1 0) 16} (λ e. go (leb-true _ _ e) (syms_of (get_or l 1 0) (drop 2 l)) (syms_good (get_or l 1 0) (drop 2 l) (bytes_drop 2 l b)) (syms-count (get_or l 1 0) (drop 2 l))) (λ _. good_none)) (λ _. good_none))
    (λ _. good (λ _. (tt, omega arith)))
  where
    go : get_or l 1 0 ≤ 16 → (o : Option (List Sym × ℕ)) → Good SymsP o → Counted (get_or l 1 0) o → Good NotesP (reading o none (λ ss n. some (ss, 2 + n)))
    go h none g c = good_none
    go h (some (ss, n)) (good p) (counted c) = good (λ e. (p e, omega arith))

abbrev HeadP : Frame → Head → Type 0
HeadP k h = head_fault h ≡ 0 → FineHead k h

head_pair : (k : Frame) (a : Option Sym) (ss : List Sym) → NameP k a → NotesP ss → HeadP k (a, ss)
unfolding head_fault
head_pair k a ss p q e =
    let z = first-zero (name_fault a) (syms_fault ss) e in
    let n = q z.1 in
    record { name = p z.0; notes = n.0; few = n.1 }

head_good : (k : Frame) (l : List ℕ) → Bytes l → Good (HeadP k) (head_of k l)
unfolding head_of
head_good k l b =
    then_good (NameP k) NotesP (HeadP k) (λ a ss. (a, ss)) (head_pair k) (name_of k l) (λ n. notes_of (drop n l)) (name_good k l b) (λ n. notes_good (drop n l) (bytes_drop n l b))

-- a marker may stand behind it
free-head : (k : Frame) (l : List ℕ) → free_at k l ≡ true → Good (λ h. FineMarker k h.1) (head_of k l)
unfolding free_at head_of name_of notes_of
free-head Top l e = go (eqb (kind l) 13) refl e
  where
    go : (t : Bool) → eqb (kind l) 13 ≡ t → if t false true ≡ true → Good (λ h. FineMarker Top h.1) (head_of Top l)
    go true h e = never (sym e)
    go false h e = rw h (good tt)
free-head ListF l e = never (sym e)
free-head Sexp l e = never (sym e)
free-head Struct l e = never (sym e)

-- ---- scalars

abbrev ScalarP : Scalar → Type 0
ScalarP s = scalar_fault s ≡ 0 → FineScalar s

float_fine : (x : Float) → T (fits binary64 x) → float_fault x ≡ 0 → FineFloat x
unfolding float_fault
float_fine nan f e = tt
float_fine (inf s) f e = tt
float_fine (fin s m d) f e = (f, if_zero_else (is_whole (fin s m d)) 3 e)

float_good : (b : ℕ) → Good ScalarP (float_as b)
unfolding float_as scalar_fault
float_good b =
    if_all (Good ScalarP) {b = eqb b 0x7FF8_0000_0000_0000} (λ _. good (λ _. tt)) (λ _.
    if_all (Good ScalarP) {b = ltb 0x7FF0_0000_0000_0000 (b % 0x8000_0000_0000_0000)} (λ _. good_none) (λ _. good (float_fine (of_bits binary64 b) (of_bits-fits binary64 b))))

decimal_good : (l : List ℕ) → Bytes l → Good ScalarP (decimal_of l)
unfolding decimal_of
decimal_good l b =
    if_all (Good ScalarP) {b = leb 14 (length l)} (λ _. if_all (Good ScalarP) {b = leb (get_or l 1 0) 1} (λ _. good (λ _.
    (le_bound 8 (drop 2 l) (bytes_drop 2 l b), signed-fits w32 (le_number 4 (drop 10 l)) (le_bound 4 (drop 10 l) (bytes_drop 10 l b))))) (λ _. good_none)) (λ _. good_none)

timestamp_good : (l : List ℕ) → Good ScalarP (timestamp_of l)
unfolding timestamp_of scalar_fault
timestamp_good l = if_all (Good ScalarP) {b = leb 16 (length l)} (λ _. good (if_zero_else (well_formed (timestamp_as l)) 1)) (λ _. good_none)

scalar_good : (l : List ℕ) → Bytes l → Good ScalarP (scalar_of l)
unfolding scalar_of byte_of int_of float_of symbol_of sized_of scalar_fault
scalar_good l b =
    if_all (Good ScalarP) {b = eqb (kind l) 0} (λ _. if_all (Good ScalarP) {b = leb 2 (length l)} (λ _. if_all (Good ScalarP) {b = leb (get_or l 1 0) 12} (λ e. good (λ _. leb-true _ _ e)) (λ _. good_none)) (λ _. good_none)) (λ _.
    if_all (Good ScalarP) {b = eqb (kind l) 1} (λ _. if_all (Good ScalarP) {b = leb 2 (length l)} (λ _. if_all (Good ScalarP) {b = leb (get_or l 1 0) 1} (λ _. good (λ _. tt)) (λ _. good_none)) (λ _. good_none)) (λ _.
    if_all (Good ScalarP) {b = eqb (kind l) 2} (λ _. if_all (Good ScalarP) {b = leb 9 (length l)} (λ _. good (λ _. signed-fits w64 (le_number 8 (drop 1 l)) (le_bound 8 (drop 1 l) (bytes_drop 1 l b)))) (λ _. good_none)) (λ _.
    if_all (Good ScalarP) {b = eqb (kind l) 3} (λ _. if_all (Good ScalarP) {b = leb 9 (length l)} (λ _. float_good (le_number 8 (drop 1 l))) (λ _. good_none)) (λ _.
    if_all (Good ScalarP) {b = eqb (kind l) 4} (λ _. decimal_good l b) (λ _.
    if_all (Good ScalarP) {b = eqb (kind l) 5} (λ _. timestamp_good l) (λ _.
    if_all (Good ScalarP) {b = eqb (kind l) 6} (λ _. map_good SymP ScalarP symbol (λ s p. p) (sym_of l) (sym_good l b)) (λ _.
    if_all (Good ScalarP) {b = eqb (kind l) 7} (λ _. map_good SymP ScalarP symbol (λ s p. p) (sym_of l) (sym_good l b)) (λ _.
    if_all (Good ScalarP) {b = eqb (kind l) 8} (λ _. map_good FineBytes ScalarP string text_fine (text_of l) (text_good l b)) (λ _.
    if_all (Good ScalarP) {b = eqb (kind l) 9} (λ _. map_good FineBytes ScalarP clob (λ s p _. p) (text_of l) (text_good l b)) (λ _.
    if_all (Good ScalarP) {b = eqb (kind l) 15} (λ _. map_good FineBytes ScalarP blob (λ s p _. p) (text_of l) (text_good l b)) (λ _. good_none)))))))))))

-- ---- values

-- a leaf is a scalar, or a marker where one may stand
abbrev LeafP : Bool → Node → Type 0
LeafP f (scalar s) = ScalarP s
LeafP f (nest k ns) = ⊥
LeafP f marker = f ≡ true

data GoodV (f : Bool) : Value → Type 0 where
  good_absent : GoodV f absent
  good_leaf : {v : Node} {n : ℕ} → LeafP f v → GoodV f (leaf v n)
  good_body : {k : Frame} {n : ℕ} → Inner k → n < 2 ^ 32 → GoodV f (body k n)

value_good : (f : Bool) (l : List ℕ) → Bytes l → GoodV f (value_of f l)
value_good f l b =
    value-all (GoodV f) f l good_absent (λ k i _ _. good_body i (le_bound 4 (drop 1 l) (bytes_drop 1 l b))) (λ _ e. good_leaf e)
    (λ s n e. good_leaf (told {a = s} {n = n} (rw e at (scalar_good l b))))

-- ---- children

data GoodC (k : Frame) : Child → Type 0 where
  good_bad : GoodC k bad
  good_single : {h : Head} {v : Node} {n : ℕ} → HeadP k h → (fault v ≡ 0 → (d : ℕ) → Fine d k h.1 v) → GoodC k (single h v n)
  good_tree : {h : Head} {f : Frame} {q n : ℕ} → HeadP k h → Inner f → n < 2 ^ 32 → GoodC k (tree h f q n)

child_good : (k : Frame) (l : List ℕ) → Bytes l → GoodC k (child_of k l)
unfolding child_of Fine
child_good k l b = go (head_of k l) (head_good k l b) (free-head k l)
  where
    behind_good : (h : Head) (n : ℕ) → HeadP k h → (free_at k l ≡ true → FineMarker k h.1) → (v : Value) → GoodV (free_at k l) v → GoodC k (headed_child h n v)
    behind_good h n p m absent g = good_bad
    behind_good h n p m (leaf (scalar s) i) (good_leaf q) = good_single p (λ e d. q e)
    behind_good h n p m (leaf (nest f ns) i) (good_leaf q) = absurd q
    behind_good h n p m (leaf marker i) (good_leaf q) = good_single p (λ e d. m q)
    behind_good h n p m (body f i) (good_body q j) = good_tree p q j

    go : (o : Option (Head × ℕ)) → Good (HeadP k) o → (free_at k l ≡ true → Good (λ h. FineMarker k h.1) o) → GoodC k (reading o bad (λ h n. headed_child h n (value_of (free_at k l) (drop n l))))
    go none g m = good_bad
    go (some (h, n)) (good p) m = behind_good h n p (λ e. told (m e)) (value_of (free_at k l) (drop n l)) (value_good (free_at k l) (drop n l) (bytes_drop n l b))

-- ---- the walk

-- what is known of a container whose body is walked by inner
abbrev Deep : ℕ → (Frame → List ℕ → Walked) → Type 0
Deep d inner = (k : Frame) (ss : List Sym) (f : Frame) (u : List ℕ) → Bytes u → length u < 2 ^ 32 → Inner f → (inner f u).1 ≡ 0 → Fine d k ss (nest f (inner f u).0)

turn_fine : (d : ℕ) (inner : Frame → List ℕ → Walked) → Deep d inner → (k : Frame) (l : List ℕ) (c : Child) → GoodC k c → (rest : ℕ → Walked)
    → ((m : ℕ) → (rest m).1 ≡ 0 → Fines d k (rest m).0) → Bytes l → (turn inner c l rest).1 ≡ 0 → Fines d k (turn inner c l rest).0
unfolding Fines
turn_fine d inner deep k l bad g rest r b z = absurd (omega arith)
turn_fine d inner deep k l (single h n m) (good_single p q) rest r b z =
    let y = join-zero (head_fault h) (fault n) (rest m).1 z in (p y.0, q y.1 d, r m y.2)
turn_fine d inner deep k l (tree h f q m) (good_tree p i s) rest r b z =
    let u : List ℕ = take m (drop q l) in
    let y = join-zero (head_fault h) (inner f u).1 (rest (q + m)).1 z in
    let n = length-take m (drop q l) in
    (p y.0, deep k h.1 f u (bytes_take m (drop q l) (bytes_drop q l b)) (omega arith) i y.1, r (q + m) y.2)

level_fine : (d : ℕ) (inner : Frame → List ℕ → Walked) → Deep d inner → (k : Frame) (n : ℕ) (l : List ℕ) → Bytes l → (level inner k n l).1 ≡ 0 → Fines d k (level inner k n l).0
unfolding level Fines
level_fine d inner deep k zero [] b z = tt
level_fine d inner deep k (suc n) [] b z = tt
level_fine d inner deep k (suc n) (x ∷ l) b z = level_fine d inner deep k n l (λ i. b (suc i)) z
level_fine d inner deep k zero (x ∷ l) b z =
    turn_fine d inner deep k (x ∷ l) (child_of k (x ∷ l)) (child_good k (x ∷ l) b) (λ m. level inner k (m - 1) l) (λ m y. level_fine d inner deep k (m - 1) l (λ i. b (suc i)) y) b z

-- THE THIRD THEOREM: what is accepted is well-formed. (Lengths on a tape are u32, so that the body's own length does not matter.)
pub walk_fine : (d : ℕ) (k : Frame) (l : List ℕ) → Bytes l → (walk (suc d) k l).1 ≡ 0 → Fines d k (walk (suc d) k l).0
unfolding walk Fine
walk_fine zero k l b z = level_fine zero (walk zero) (λ k ss f u c s i y. absurd (omega arith)) k 0 l b z
walk_fine (suc d) k l b z =
    level_fine (suc d) (walk (suc d)) (λ k ss f u c s i y. (i, subst (λ (x : List ℕ). length x < 2 ^ 32) (sym (walk_back (suc d) f u c y)) s, walk_fine d f u c y)) k 0 l b z

pub tape_fine : (t : List ℕ) → Bytes t → verdict t ≡ 0 → Fines 64 Top (nodes_of t)
unfolding nodes_of body_of
tape_fine t b e = walk_fine 64 Top (take (length t - 8) t) (bytes_take (length t - 8) t b) (verdict-told t e).nodes
