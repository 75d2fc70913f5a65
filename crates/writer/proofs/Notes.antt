-- The text of annotations and of heads. Assumes nothing.
use Prim.Native.Nat.{ℕ, zero, suc, ◌+◌, ◌-◌, ◌<◌, ◌≤◌, min}
use mathlib.Core.Path.{◌≡◌, refl, sym, ap, ◌∙◌}
use mathlib.Core.List.{List, [], ◌∷◌, ◌++◌, append-nil}
use mathlib.Core.Bool.{Bool, true, false}
use mathlib.Core.Option.{Option, none, some}
use native.Mathlib.Omega.{arith}
use lib.Dec.{leb, eqb}
use lib.ListN.{length, get_or, drop}
use Rattle.output.specs.Logic.{if, ascii}
use Rattle.output.specs.Wrote.{Wrote, limit}
use Rattle.output.proofs.Laws.{Progress, begin, more as further, finish}
use Rattle.text_rules.specs.Text.{Sym}
use Rattle.tape.specs.Bytes.{part}
use Rattle.tape.specs.Tree.{Head, encode_notes}
use Rattle.tape.specs.Tape.{reading, kind, sym_of, syms_of, name_of, notes_of, head_of}
use Rattle.tape.specs.Steps.{place_of, head_at, size_taken}
use Rattle.tape.specs.declared.Frame.{Frame}
use Rattle.std.specs.Prelude.{Option as OptionC, Some}
use Rattle.tape.proofs.Parts.{part-drop, part-first}
use Rattle.tape.proofs.Reading.{if_all, notes_sound, Long, long, sym_long}
use Rattle.tape.proofs.CodeReading.{place_read, place-within, head_one, notes-none}
use Rattle.writer.specs.Text.{sym_text, name_text, notes_text, blanks}
use Rattle.writer.specs.Steps.{name_in, notes_in, front}
use Rattle.writer.proofs.Texts.{name-head}

-- the same was read
both : {A : Type 0} {a b : A} {n m : ℕ} → ◌≡◌ {A = Option (A × ℕ)} (some (a, n)) (some (b, m)) → (a ≡ b) × (n ≡ m)
both {A} {a} e = (ap (λ (o : Option (A × ℕ)). reading o a (λ v i. v)) e, ap (λ (o : Option (A × ℕ)). reading o 0 (λ v i. i)) e)

-- ---- annotations

-- one symbol of those that end at v, and the others
record Split (quoted : Bool) (s : List ℕ) (from e v : ℕ) (ss : List Sym) (x : Sym) (n : ℕ) : Type 0 where
  count : ℕ
  rest : List Sym
  read : syms_of count (part s (from + n) e) ≡ some (rest, v - (from + n))
  fits : from + n ≤ v
  text : notes_text quoted ss ≡ sym_text quoted x ++ ascii "::" ++ notes_text quoted rest

module _ (quoted : Bool) (s : List ℕ) (from e v : ℕ) where
  split : (c : ℕ) (ss : List Sym) → syms_of c (part s from e) ≡ some (ss, v - from) → from < v → (x : Sym) (n : ℕ) → some (x, n) ≡ sym_of (part s from e) → Split quoted s from e v ss x n
  unfolding syms_of notes_text
  split zero ss r h x n m = let y : 0 ≡ v - from = (both r).1 in absurd (omega arith)
  split (suc c) ss r h x n m =
      go (syms_of c (drop n (part s from e))) refl (ap (λ (o : Option (Sym × ℕ)). reading {B = Option (List Sym × ℕ)} o none (λ x n. reading (syms_of c (drop n (part s from e))) none (λ ts j. some (x ∷ ts, n + j)))) m ∙ r)
    where
      go : (o : Option (List Sym × ℕ)) → syms_of c (drop n (part s from e)) ≡ o → reading {B = Option (List Sym × ℕ)} o none (λ ts j. some (x ∷ ts, n + j)) ≡ some (ss, v - from) → Split quoted s from e v ss x n
      go none q r = let y : ◌≡◌ {A = ℕ} 0 1 = cc in absurd (omega arith)
      go (some (ts, j)) q r =
          let y : n + j ≡ v - from = (both r).1 in
          let i : j ≡ v - (from + n) = omega arith in
          record {
            count = c;
            rest = ts;
            read = ap (syms_of c) (sym (part-drop s from e n)) ∙ q ∙ ap (λ (k : ℕ). some (ts, k)) i;
            fits = omega arith;
            text = sym (ap (notes_text quoted) (both r).0);
          }

  unsplit : (c : ℕ) (ss : List Sym) → syms_of c (part s from e) ≡ some (ss, v - from) → from < v → none ≡ sym_of (part s from e) → ⊥
  unfolding syms_of
  unsplit zero ss r h m = let y : 0 ≡ v - from = (both r).1 in omega arith
  unsplit (suc c) ss r h m =
      let q = ap (λ (o : Option (Sym × ℕ)). reading {B = Option (List Sym × ℕ)} o none (λ x n. reading (syms_of c (drop n (part s from e))) none (λ ts j. some (x ∷ ts, n + j)))) m ∙ r in
      let y : ◌≡◌ {A = ℕ} 0 1 = cc in
      omega arith

-- no bytes, no symbols
syms-nothing : (c : ℕ) (l : List ℕ) (ss : List Sym) → syms_of c l ≡ some (ss, 0) → ss ≡ []
unfolding syms_of
syms-nothing zero l ss r = sym (both r).0
syms-nothing (suc c) l ss r = go (sym_of l) (sym_long l) r
  where
    inner : (x : Sym) (n : ℕ) → 1 < n → (o : Option (List Sym × ℕ)) → reading {B = Option (List Sym × ℕ)} o none (λ ts j. some (x ∷ ts, n + j)) ≡ some (ss, 0) → ss ≡ []
    inner x n h none r = let y : ◌≡◌ {A = ℕ} 0 1 = cc in absurd (omega arith)
    inner x n h (some (ts, j)) r = let y : n + j ≡ 0 = (both r).1 in absurd (omega arith)

    go : (o : Option (Sym × ℕ)) → Long o → reading {B = Option (List Sym × ℕ)} o none (λ x n. reading (syms_of c (drop n l)) none (λ ts j. some (x ∷ ts, n + j))) ≡ some (ss, 0) → ss ≡ []
    go none h r = let y : ◌≡◌ {A = ℕ} 0 1 = cc in absurd (omega arith)
    go (some (x, n)) (long h) r = inner x n h (syms_of c (drop n l)) r

-- Annotations are being written: those before `from` are, those from there to v are left
pub record Noting (quoted : Bool) (a b : List ℕ) (pos p : ℕ) (whole s : List ℕ) (from e v : ℕ) : Type 0 where
  pub count : ℕ
  pub notes : List Sym
  pub read : syms_of count (part s from e) ≡ some (notes, v - from)
  pub before : from ≤ v
  pub progress : Progress a b pos p whole (notes_text quoted notes)

module _ {quoted : Bool} {a b : List ℕ} {pos p : ℕ} {whole s : List ℕ} {from e v : ℕ} (g : Noting quoted a b pos p whole s from e v) where
  pub notes-done : v ≤ from → Wrote a b pos p whole
  unfolding notes_text
  notes-done h =
      let y : v - from ≡ 0 = omega arith in
      finish g.progress (ap (notes_text quoted) (syms-nothing g.count (part s from e) g.notes (g.read ∙ ap (λ (i : ℕ). some (g.notes, i)) y)))

  pub note_bad : from < v → none ≡ sym_of (part s from e) → ⊥
  note_bad h m = unsplit quoted s from e v g.count g.notes g.read h m

  pub note-fits : from < v → (x : Sym) (n : ℕ) → some (x, n) ≡ sym_of (part s from e) → from + n ≤ v
  note-fits h x n m = (split quoted s from e v g.count g.notes g.read h x n m).fits

  pub note-written : from < v → (x : Sym) (n : ℕ) → some (x, n) ≡ sym_of (part s from e) → {c : List ℕ} {q : ℕ} → Wrote b c p q (sym_text quoted x ++ ascii "::") → Noting quoted a c pos q whole s (from + n) e v
  note-written h x n m w =
      let i = split quoted s from e v g.count g.notes g.read h x n m in
      record { count = i.count; notes = i.rest; read = i.read; before = i.fits; progress = further g.progress w i.text }

-- annotations, behind the kind byte and their number; or none
record Listed (l : List ℕ) (ss : List Sym) (n : ℕ) : Type 0 where
  least : 2 ≤ n
  read : syms_of (get_or l 1 0) (drop 2 l) ≡ some (ss, n - 2)

notes_listed : (l : List ℕ) (ss : List Sym) (n : ℕ) → 0 < n → notes_of l ≡ some (ss, n) → Listed l ss n
unfolding notes_of
notes_listed l ss n h =
    if_all P {b = eqb (kind l) 13} (λ _.
    if_all P {b = leb 1 (get_or l 1 0)} (λ _.
    if_all P {b = leb (get_or l 1 0) 16} (λ _. go (syms_of (get_or l 1 0) (drop 2 l)) refl) (λ _. nowhere)) (λ _. nowhere)) (λ _ e. let y : 0 ≡ n = (both e).1 in absurd (omega arith))
  where
    P : Option (List Sym × ℕ) → Type 0
    P o = o ≡ some (ss, n) → Listed l ss n

    nowhere : P none
    nowhere e = let y : ◌≡◌ {A = ℕ} 0 1 = cc in absurd (omega arith)

    go : (o : Option (List Sym × ℕ)) → syms_of (get_or l 1 0) (drop 2 l) ≡ o → P (reading o none (λ ts j. some (ts, 2 + j)))
    go none q e = let y : ◌≡◌ {A = ℕ} 0 1 = cc in absurd (omega arith)
    go (some (ts, j)) q e =
        let y : 2 + j ≡ n = (both e).1 in
        let i : j ≡ n - 2 = omega arith in
        record { least = omega arith; read = q ∙ ap (λ (k : ℕ). some (ts, k)) i ∙ ap (λ (us : List Sym). some (us, n - 2)) (both e).0 }

notes-nothing : (l : List ℕ) (ss : List Sym) → notes_of l ≡ some (ss, 0) → ss ≡ []
unfolding notes_of
notes-nothing l ss =
    if_all P {b = eqb (kind l) 13} (λ _.
    if_all P {b = leb 1 (get_or l 1 0)} (λ _.
    if_all P {b = leb (get_or l 1 0) 16} (λ _. go (syms_of (get_or l 1 0) (drop 2 l))) (λ _. nowhere)) (λ _. nowhere)) (λ _ e. sym (both e).0)
  where
    P : Option (List Sym × ℕ) → Type 0
    P o = o ≡ some (ss, 0) → ss ≡ []

    nowhere : P none
    nowhere e = let y : ◌≡◌ {A = ℕ} 0 1 = cc in absurd (omega arith)

    go : (o : Option (List Sym × ℕ)) → P (reading o none (λ ts j. some (ts, 2 + j)))
    go none e = let y : ◌≡◌ {A = ℕ} 0 1 = cc in absurd (omega arith)
    go (some (ts, j)) e = let y : 2 + j ≡ 0 = (both e).1 in absurd (omega arith)

module _ (quoted : Bool) (s : List ℕ) (at e v : ℕ) (z : place_of at (notes_of (part s at e)) ≡ Some v) where
  pub notes_absent : at ≡ v → notes_text quoted (notes_in (part s at e)) ≡ []
  unfolding notes_text
  notes_absent h =
      let y : v - at ≡ 0 = omega arith in
      let r = (place_read [] at v (notes_of (part s at e)) z).1 in
      ap (notes_text quoted) (notes-nothing (part s at e) (notes_in (part s at e)) (r ∙ ap (λ (i : ℕ). some (notes_in (part s at e), i)) y))

  pub notes-room : at ≤ e → e ≤ length s → v ≤ e
  notes-room h i = (place-within encode_notes s at e v (notes_of (part s at e)) h i (notes_sound (part s at e)) z).1

  pub notes-start : (at ≡ v → ⊥) → (b : List ℕ) (pos p : ℕ) → p ≡ min pos limit → length b < limit → Noting quoted b b pos p (notes_text quoted (notes_in (part s at e))) s (at + 2) e v
  notes-start h b pos p i j =
      let r = place_read [] at v (notes_of (part s at e)) z in
      let m = r.0 in
      let f = notes_listed (part s at e) (notes_in (part s at e)) (v - at) (omega arith) r.1 in
      let n = f.least in
      let y : v - at - 2 ≡ v - (at + 2) = omega arith in
      record {
        count = get_or (part s at e) 1 0;
        notes = notes_in (part s at e);
        read = ap (syms_of (get_or (part s at e) 1 0)) (sym (part-drop s at e 2)) ∙ f.read ∙ ap (λ (i : ℕ). some (notes_in (part s at e), i)) y;
        before = omega arith;
        progress = begin b pos p _ i j;
      }

-- ---- heads

-- the annotations of a child are those in its head
notes-head : (k : Frame) (s : List ℕ) (at e q : ℕ) (h : Head) (m : ℕ) → Some q ≡ place_of at (name_of k (part s at e)) → head_of k (part s at e) ≡ some (h, m) → notes_in (part s q e) ≡ h.1
unfolding head_of
notes-head k s at e q h m z r = go (name_of k (part s at e)) z r
  where
    behind : (a : Option Sym) (n : ℕ) (o : Option (List Sym × ℕ)) → reading {B = Option (Head × ℕ)} o none (λ ss i. some ((a, ss), n + i)) ≡ some (h, m) → reading o [] (λ ss i. ss) ≡ h.1
    behind a n none r = let y : ◌≡◌ {A = ℕ} 0 1 = cc in absurd (omega arith)
    behind a n (some (ss, i)) r = ap (λ (o : Option (Head × ℕ)). reading o ss (λ g j. g.1)) r

    go : (o : Option (Option Sym × ℕ)) → Some q ≡ place_of at o
        → reading {B = Option (Head × ℕ)} o none (λ a n. reading (notes_of (drop n (part s at e))) none (λ ss i. some ((a, ss), n + i))) ≡ some (h, m) → notes_in (part s q e) ≡ h.1
    go none z r = let y : ◌≡◌ {A = ℕ} 0 1 = cc in absurd (omega arith)
    go (some (a, n)) z r =
        let y : at + n ≡ q = cc in
        ap (λ (i : ℕ). notes_in (part s i e)) (sym y) ∙ ap notes_in (sym (part-drop s at e n)) ∙ behind a n (notes_of (drop n (part s at e))) r

-- a head is written in three parts
pub front_parts : (quoted : Bool) (y w : ℕ) (k : Frame) (s : List ℕ) (at e q v : ℕ) → place_of at (name_of k (part s at e)) ≡ Some q → place_of at (head_of k (part s at e)) ≡ Some v
    → front quoted y w (head_at k (part s at e)) ≡ blanks w ++ name_text quoted (name_in k (part s at e)) ++ if (eqb y 3) (notes_text quoted (notes_in (part s q e))) []
unfolding front
front_parts quoted y w k s at e q v n z =
    let r = (place_read (none, []) at v (head_of k (part s at e)) z).1 in
    ap (λ (a : Option Sym). blanks w ++ name_text quoted a ++ if (eqb y 3) (notes_text quoted (head_at k (part s at e)).1) []) (sym (name-head k _ _ _ r))
    ∙ ap (λ (ss : List Sym). blanks w ++ name_text quoted (name_in k (part s at e)) ++ if (eqb y 3) (notes_text quoted ss) []) (sym (notes-head k s at e q _ _ (sym n) r))

-- a head is there, and its name ends at q
module _ (k : Frame) (s : List ℕ) (at e : ℕ) (r : head_of k (part s at e) ≡ some (head_at k (part s at e), size_taken (head_of k (part s at e)))) where
  pub name_there : name_of k (part s at e) ≡ some (name_in k (part s at e), size_taken (name_of k (part s at e)))
  unfolding head_of
  name_there = go (name_of k (part s at e)) r
    where
      go : (o : Option (Option Sym × ℕ)) → reading {B = Option (Head × ℕ)} o none (λ a n. reading (notes_of (drop n (part s at e))) none (λ ss i. some ((a, ss), n + i))) ≡ some (head_at k (part s at e), size_taken (head_of k (part s at e)))
          → o ≡ some (reading {B = Option Sym} o none (λ a n. a), size_taken o)
      go none r = let y : ◌≡◌ {A = ℕ} 0 1 = cc in absurd (omega arith)
      go (some (a, n)) r = refl

  module _ (q : ℕ) (y : q ≡ at + size_taken (name_of k (part s at e))) where
    pub name_placed : place_of at (name_of k (part s at e)) ≡ Some q
    name_placed = ap (place_of at) name_there ∙ ap Some (sym y)

    pub notes_placed : place_of q (notes_of (part s q e)) ≡ Some (at + size_taken (head_of k (part s at e)))
    notes_placed = sym (head_one k s at e q name_placed) ∙ ap (place_of at) r

    pub name-before : q ≤ at + size_taken (head_of k (part s at e))
    name-before = (place_read [] q (at + size_taken (head_of k (part s at e))) (notes_of (part s q e)) notes_placed).0

    module _ (h : q < e) (n : get_or s q 0 ≡ 13 → ⊥) where
      noteless : notes_of (part s q e) ≡ some ([], 0)
      noteless = notes-none (part s q e) (λ z. n (sym (part-first s q e h) ∙ z))

      pub bare_place : q ≡ at + size_taken (head_of k (part s at e))
      bare_place =
          let z : ◌≡◌ {A = OptionC ℕ} (Some (q + 0)) (Some (at + size_taken (head_of k (part s at e)))) = sym (ap (place_of q) noteless) ∙ notes_placed in
          let x : q + 0 ≡ at + size_taken (head_of k (part s at e)) = cc in
          omega arith

      pub bare_front : (quoted : Bool) (y w : ℕ) → front quoted y w (head_at k (part s at e)) ≡ blanks w ++ name_text quoted (name_in k (part s at e))
      unfolding notes_text
      bare_front quoted y w =
          front_parts quoted y w k s at e q (at + size_taken (head_of k (part s at e))) name_placed (ap (place_of at) r)
          ∙ ap (λ (o : Option (List Sym × ℕ)). blanks w ++ name_text quoted (name_in k (part s at e)) ++ if (eqb y 3) (notes_text quoted (reading o [] (λ ss n. ss))) []) noteless
          ∙ go (eqb y 3)
        where
          go : (b : Bool) → blanks w ++ name_text quoted (name_in k (part s at e)) ++ if b [] [] ≡ blanks w ++ name_text quoted (name_in k (part s at e))
          go true = append-nil _
          go false = append-nil _
