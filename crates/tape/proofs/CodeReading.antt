-- What is read, by the tests of the code. Assumes nothing.
use Prim.Native.Nat.{ℕ, zero, suc, ◌+◌, ◌*◌, ◌-◌, ◌^◌, ◌<◌, ◌≤◌}
use mathlib.Core.Path.{◌≡◌, refl, sym, ap, ◌∙◌}
use mathlib.Core.List.{List, [], ◌∷◌}
use mathlib.Core.Bool.{Bool, true, false, not}
use mathlib.Core.Option.{Option, none, some}
use native.Mathlib.Nat.{not-suc-le-zero, pow-suc, zero-add, add-zero, suc-add, mul_comm, mul_right_comm}
use native.Mathlib.Numerals.{one-add}
use native.Mathlib.Omega.{arith}
use native.Mathlib.Decide.{dec_le}
use lib.Dec.{eqb, leb}
use lib.ListN.{length, get_or, take, drop}
use lib.Seq.{drop-drop, get_or-drop, get_or-take}
use mir.Syntax.{Width}
use mir.Val.{to_z}
use mir.Val.{bits as width_of}
use borrow.Author.Tests.{le-leb, lt-leb, leb-true, eq-eqb, ne_eqb}
use Rattle.output.specs.Logic.{if}
use Rattle.text_rules.specs.Text.{Sym}
use Rattle.tape.specs.Bytes.{le_number, signed, part}
use Rattle.tape.specs.Tree.{Scalar, Head, null, bool, int, decimal, timestamp, string, clob, blob, scalar, marker}
use Rattle.tape.specs.Tape.{reading, kind, length_of, text_of, sym_of, syms_of, name_of, notes_of, head_of, byte_of, int_of, float_as, float_of, decimal_of, timestamp_as, timestamp_of, symbol_of, sized_of, scalar_of, absent, leaf, open_of, value_of}
use Rattle.tape.specs.Steps.{place_of, length_in}
use Rattle.tape.specs.declared.Frame.{Frame}
use Rattle.tape.specs.declared.Frame.TheVariants.{List as ListF, Sexp, Struct}
use Rattle.std.specs.Prelude.{Option as OptionC, Some, None}
use Rattle.tape.proofs.Reading.{Sound, something}
use Rattle.tape.proofs.Numbers.{signed_is, le_take}
use Rattle.tape.proofs.Parts.{drop-take, part_length, part-drop}

pub if_not : (b : Bool) → not b ≡ if b false true
if_not true = refl
if_not false = refl

-- ---- numbers: v bytes, and w behind them

pub le_add : (v w : ℕ) (l : List ℕ) → le_number (v + w) l ≡ le_number v l + 256 ^ v * le_number w (drop v l)
unfolding le_number
le_add zero w l = rw (zero-add w) (omega arith)
le_add (suc v) w l =
    let d : drop v (drop 1 l) ≡ drop (suc v) l = drop-drop v 1 l ∙ ap (λ (i : ℕ). drop i l) (one-add v) in
    let x : ℕ = le_number w (drop (suc v) l) in
    let m : 256 ^ v * 256 * x ≡ 256 * (256 ^ v * x) = mul_right_comm (256 ^ v) 256 x ∙ mul_comm (256 ^ v * x) 256 in
    let y : ℕ = 256 ^ v * x in
    rw (suc-add v w) (rw (le_add v w (drop 1 l), d, pow-suc 256 v, m) (omega arith))

-- the same at a place
pub le_two : (s : List ℕ) (at : ℕ) → le_number 2 (drop at s) ≡ get_or s at 0 + 256 * get_or s (at + 1) 0
unfolding le_number
le_two s at =
    let b₀ : get_or (drop at s) 0 0 ≡ get_or s at 0 = get_or-drop at s 0 0 ∙ ap (λ (i : ℕ). get_or s i 0) (add-zero at) in
    let b₁ : get_or (drop 1 (drop at s)) 0 0 ≡ get_or s (at + 1) 0 = get_or-drop 1 (drop at s) 0 0 ∙ get_or-drop at s 1 0 in
    omega arith

pub le_both : (v w : ℕ) (s : List ℕ) (at : ℕ) → le_number (v + w) (drop at s) ≡ le_number v (drop at s) + 256 ^ v * le_number w (drop (at + v) s)
le_both v w s at = le_add v w (drop at s) ∙ ap (λ (l : List ℕ). le_number v (drop at s) + 256 ^ v * le_number w l) (drop-drop v at s)

pub le_four : (s : List ℕ) (at : ℕ) → le_number 4 (drop at s) ≡ get_or s at 0 + 256 * get_or s (at + 1) 0 + 65536 * get_or s (at + 2) 0 + 16777216 * get_or s (at + 3) 0
le_four s at =
    let b = le_both 2 2 s at in
    let l = le_two s at in
    let h = le_two s (at + 2) in
    let e : at + 2 + 1 ≡ at + 3 = omega arith in
    let h' : le_number 2 (drop (at + 2) s) ≡ get_or s (at + 2) 0 + 256 * get_or s (at + 3) 0 = rw e at h in
    omega arith

-- the signed number of inverted bits, inverted again; m is the greatest number of the width
pub signed_inverted : (w : Width) (m b : ℕ) → b ≤ m → to_z w (m - (m - b)) ≡ signed (width_of w) b
signed_inverted w m b h = let e : m - (m - b) ≡ b = omega arith in ap (to_z w) e ∙ sym (signed_is w b)

-- ---- scalars

module _ (l : List ℕ) where
  pub byte_short : (most : ℕ) (f : ℕ → Scalar) → length l < 2 → byte_of most f l ≡ none
  unfolding byte_of
  byte_short most f h = simp (lt-leb _ _ h)

  pub byte_over : (most : ℕ) (f : ℕ → Scalar) → most < get_or l 1 0 → byte_of most f l ≡ none
  unfolding byte_of
  byte_over most f g = go (leb 2 (length l))
    where
      go : (b : Bool) → if {A = Option (Scalar × ℕ)} b (if (leb (get_or l 1 0) most) (some (f (get_or l 1 0), 2)) none) none ≡ none
      go true = simp (lt-leb _ _ g)
      go false = refl

  pub byte_some : (most : ℕ) (f : ℕ → Scalar) → 2 ≤ length l → get_or l 1 0 ≤ most → byte_of most f l ≡ some (f (get_or l 1 0), 2)
  unfolding byte_of
  byte_some most f h g = simp (le-leb _ _ h, le-leb _ _ g)

  pub int_short : length l < 9 → int_of l ≡ none
  unfolding int_of
  int_short h = simp (lt-leb _ _ h)

  pub int_some : 9 ≤ length l → int_of l ≡ some (int (signed 64 (le_number 8 (drop 1 l))), 9)
  unfolding int_of
  int_some h = simp (le-leb _ _ h)

  pub float_short : length l < 9 → float_of l ≡ none
  unfolding float_of
  float_short h = simp (lt-leb _ _ h)

  pub float-some : 9 ≤ length l → float_of l ≡ float_as (le_number 8 (drop 1 l))
  unfolding float_of
  float-some h = simp (le-leb _ _ h)

  pub decimal_short : length l < 14 → decimal_of l ≡ none
  unfolding decimal_of
  decimal_short h = simp (lt-leb _ _ h)

  pub decimal_over : 14 ≤ length l → 1 < get_or l 1 0 → decimal_of l ≡ none
  unfolding decimal_of
  decimal_over h g = simp (le-leb _ _ h, lt-leb _ _ g)

  pub decimal_some : 14 ≤ length l → get_or l 1 0 ≤ 1
      → decimal_of l ≡ some (decimal (eqb (get_or l 1 0) 1) (le_number 8 (drop 2 l)) (signed 32 (le_number 4 (drop 10 l))), 14)
  unfolding decimal_of
  decimal_some h g = simp (le-leb _ _ h, le-leb _ _ g)

  pub timestamp_short : length l < 16 → timestamp_of l ≡ none
  unfolding timestamp_of
  timestamp_short h = simp (lt-leb _ _ h)

  pub timestamp-some : 16 ≤ length l → timestamp_of l ≡ some (timestamp (timestamp_as l), 16)
  unfolding timestamp_of
  timestamp-some h = simp (le-leb _ _ h)

-- its fields, by their places on the tape
pub timestamp-fields : (s : List ℕ) (at : ℕ)
    → timestamp_as (drop at s)
    ≡ record {
      precision = get_or s (at + 1) 0;
      year = le_number 2 (drop (at + 2) s);
      month = get_or s (at + 4) 0;
      day = get_or s (at + 5) 0;
      hour = get_or s (at + 6) 0;
      minute = get_or s (at + 7) 0;
      second = get_or s (at + 8) 0;
      offset = signed 16 (le_number 2 (drop (at + 9) s));
      digits = get_or s (at + 11) 0;
      fraction = le_number 4 (drop (at + 12) s);
    }
unfolding timestamp_as
timestamp-fields s at =
    let b : (i : ℕ) → get_or (drop at s) i 0 ≡ get_or s (at + i) 0 = λ i. get_or-drop at s i 0 in
    let d : (j : ℕ) → drop j (drop at s) ≡ drop (at + j) s = λ j. drop-drop j at s in
    rw (b 1, d 2, b 4, b 5, b 6, b 7, b 8, d 9, b 11, d 12)

-- no byte behind the first 16 counts
pub timestamp-part : (s : List ℕ) (at e : ℕ) → at + 16 ≤ e → timestamp_as (drop at s) ≡ timestamp_as (part s at e)
unfolding timestamp_as
timestamp-part s at e h =
    let b : (i : ℕ) → i < 16 → get_or (part s at e) i 0 ≡ get_or (drop at s) i 0 = λ i g. get_or-take (e - at) (drop at s) i 0 (omega arith) in
    let n : (w j : ℕ) → j + w ≤ 16 → le_number w (drop j (part s at e)) ≡ le_number w (drop j (drop at s)) =
    λ w j g. ap (le_number w) (drop-take j (e - at) (drop at s)) ∙ le_take w (e - at - j) (drop j (drop at s)) (omega arith) in
    rw (b 1 (omega arith), n 2 2 (omega arith), b 4 (omega arith), b 5 (omega arith), b 6 (omega arith), b 7 (omega arith), b 8 (omega arith), n 2 9 (omega arith), b 11 (omega arith), n 4 12 (omega arith))

-- ---- a length, and what it gives

-- the bytes that a length says
abbrev pub text_at : OptionC ℕ → List ℕ → Option (List ℕ × ℕ)
text_at None l = none
text_at (Some n) l = some (take n (drop 5 l), 5 + n)

module _ (l : List ℕ) where
  pub length_short : length l < 5 → length_in l ≡ None
  unfolding length_in
  length_short h = simp (lt-leb (5 + length_of l) (length l) (omega arith))

  pub length_over : length l < 5 + length_of l → length_in l ≡ None
  unfolding length_in
  length_over h = simp (lt-leb _ _ h)

  pub length_some : 5 + length_of l ≤ length l → length_in l ≡ Some (length_of l)
  unfolding length_in
  length_some h = simp (le-leb _ _ h)

  pub text_by : (r : OptionC ℕ) → r ≡ length_in l → text_of l ≡ text_at r l
  unfolding length_in text_of
  text_by r e = rw e (go (leb (5 + length_of l) (length l)))
    where
      go : (b : Bool) → if b (some (take (length_of l) (drop 5 l), 5 + length_of l)) none ≡ text_at (if b (Some (length_of l)) None) l
      go true = refl
      go false = refl

  pub length-within : (n : ℕ) → Some n ≡ length_in l → 5 + n ≤ length l
  unfolding length_in
  length-within n e = go (leb (5 + length_of l) (length l)) refl e
    where
      go : (b : Bool) → leb (5 + length_of l) (length l) ≡ b → Some n ≡ if b (Some (length_of l)) None → 5 + n ≤ length l
      go true t e = let m : n ≡ length_of l = cc in let h : 5 + length_of l ≤ length l = leb-true _ _ t in omega arith
      go false t e = let z : ◌≡◌ {A = ℕ} 0 1 = cc in absurd (omega arith)

-- ---- symbols

abbrev pub sym_at : OptionC ℕ → List ℕ → Option (Sym × ℕ)
sym_at None l = none
sym_at (Some n) l = some (Sym.text (take n (drop 5 l)), 5 + n)

module _ (l : List ℕ) where
  pub sym-text : (r : OptionC ℕ) → kind l ≡ 6 → r ≡ length_in l → sym_of l ≡ sym_at r l
  unfolding sym_of
  sym-text r k e = simp (eq-eqb _ _ k, text_by l r e) (go r)
    where
      go : (r : OptionC ℕ) → reading (text_at r l) none (λ s n. some (Sym.text s, n)) ≡ sym_at r l
      go None = refl
      go (Some n) = refl

  pub sym_id : kind l ≡ 7 → 5 ≤ length l → sym_of l ≡ some (Sym.id (length_of l), 5)
  unfolding sym_of
  sym_id k h = rw k (simp (le-leb _ _ h))

  pub sym_none : (kind l ≡ 6 → ⊥) → (kind l ≡ 7 → ⊥) → sym_of l ≡ none
  unfolding sym_of
  sym_none h g = simp (ne_eqb _ _ h, ne_eqb _ _ g)

  -- too few bytes for any symbol
  pub sym_short : length l < 5 → sym_of l ≡ none
  unfolding sym_of
  sym_short h = simp (text_by l None (sym (length_short l h)), lt-leb 5 (length l) h) (go (eqb (kind l) 6) (eqb (kind l) 7))
    where
      go : (a b : Bool) → if {A = Option (Sym × ℕ)} a none (if b none none) ≡ none
      go true b = refl
      go false true = refl
      go false false = refl

-- ---- a scalar, by its kind

module _ (l : List ℕ) where
  pub scalar-null : kind l ≡ 0 → scalar_of l ≡ byte_of 12 null l
  unfolding scalar_of
  scalar-null h = rw h

  pub scalar-bool : kind l ≡ 1 → scalar_of l ≡ byte_of 1 (λ b. bool (eqb b 1)) l
  unfolding scalar_of
  scalar-bool h = rw h

  pub scalar_int : kind l ≡ 2 → scalar_of l ≡ int_of l
  unfolding scalar_of
  scalar_int h = rw h

  pub scalar-float : kind l ≡ 3 → scalar_of l ≡ float_of l
  unfolding scalar_of
  scalar-float h = rw h

  pub scalar_decimal : kind l ≡ 4 → scalar_of l ≡ decimal_of l
  unfolding scalar_of
  scalar_decimal h = rw h

  pub scalar-timestamp : kind l ≡ 5 → scalar_of l ≡ timestamp_of l
  unfolding scalar_of
  scalar-timestamp h = rw h

  pub scalar-symbol : 6 ≤ kind l → kind l ≤ 7 → scalar_of l ≡ symbol_of l
  unfolding scalar_of
  scalar-symbol h g = go (dec_le (kind l) 6)
    where
      go : Dec (kind l ≤ 6) → scalar_of l ≡ symbol_of l
      go (yes e) = let k : kind l ≡ 6 = omega arith in rw k
      go (no n) = let k : kind l ≡ 7 = omega arith in rw k

  pub scalar-string : kind l ≡ 8 → scalar_of l ≡ sized_of string l
  unfolding scalar_of
  scalar-string h = rw h

  pub scalar-clob : kind l ≡ 9 → scalar_of l ≡ sized_of clob l
  unfolding scalar_of
  scalar-clob h = rw h

  pub scalar-blob : kind l ≡ 15 → scalar_of l ≡ sized_of blob l
  unfolding scalar_of
  scalar-blob h = rw h

  pub scalar-other : 7 < kind l → (kind l ≡ 8 → ⊥) → (kind l ≡ 9 → ⊥) → (kind l ≡ 15 → ⊥) → scalar_of l ≡ none
  unfolding scalar_of
  scalar-other h g i q =
      let n : (j : ℕ) → j ≤ 7 → eqb (kind l) j ≡ false = λ j m. ne_eqb (kind l) j (λ e. omega arith) in
      simp (n 0 (omega arith), n 1 (omega arith), n 2 (omega arith), n 3 (omega arith), n 4 (omega arith), n 5 (omega arith), n 6 (omega arith), n 7 (omega arith), ne_eqb (kind l) 8 g, ne_eqb (kind l) 9 i, ne_eqb (kind l) 15 q)

pub scalar-empty : (l : List ℕ) → length l ≤ 0 → scalar_of l ≡ none
unfolding scalar_of byte_of
scalar-empty [] h = refl
scalar-empty (x ∷ l) h = absurd (not-suc-le-zero h)

-- ---- a value, by its kind

module _ (f : Bool) (l : List ℕ) where
  pub value-list : kind l ≡ 10 → value_of f l ≡ open_of ListF l
  unfolding value_of
  value-list h = rw h

  pub value_sexp : kind l ≡ 11 → value_of f l ≡ open_of Sexp l
  unfolding value_of
  value_sexp h = rw h

  pub value_struct : kind l ≡ 12 → value_of f l ≡ open_of Struct l
  unfolding value_of
  value_struct h = rw h

  pub value_marker : kind l ≡ 14 → value_of f l ≡ if f (leaf marker 1) absent
  unfolding value_of
  value_marker h = rw h

  pub value-scalar : (kind l ≡ 10 → ⊥) → (kind l ≡ 11 → ⊥) → (kind l ≡ 12 → ⊥) → (kind l ≡ 14 → ⊥)
      → value_of f l ≡ reading (scalar_of l) absent (λ s n. leaf (scalar s) n)
  unfolding value_of
  value-scalar a b c d = simp (ne_eqb _ _ a, ne_eqb _ _ b, ne_eqb _ _ c, ne_eqb _ _ d)

pub value-empty : (f : Bool) (l : List ℕ) → length l ≤ 0 → value_of f l ≡ absent
unfolding value_of scalar_of byte_of
value-empty f [] h = refl
value-empty f (x ∷ l) h = absurd (not-suc-le-zero h)

-- ---- annotations

module _ (l : List ℕ) where
  pub notes-none : (kind l ≡ 13 → ⊥) → notes_of l ≡ some ([], 0)
  unfolding notes_of
  notes-none h = simp (ne_eqb _ _ h)

  pub notes_few : kind l ≡ 13 → get_or l 1 0 < 1 → notes_of l ≡ none
  unfolding notes_of
  notes_few h g = simp (eq-eqb _ _ h, lt-leb _ _ g)

  pub notes-many : kind l ≡ 13 → 16 < get_or l 1 0 → notes_of l ≡ none
  unfolding notes_of
  notes-many h i = simp (eq-eqb _ _ h, le-leb 1 (get_or l 1 0) (omega arith), lt-leb _ _ i)

  pub notes-some : kind l ≡ 13 → 1 ≤ get_or l 1 0 → get_or l 1 0 ≤ 16
      → notes_of l ≡ reading (syms_of (get_or l 1 0) (drop 2 l)) none (λ ss n. some (ss, 2 + n))
  unfolding notes_of
  notes-some h g i = simp (eq-eqb _ _ h, le-leb _ _ g, le-leb _ _ i)

pub notes-empty : (l : List ℕ) → length l ≤ 0 → notes_of l ≡ some ([], 0)
unfolding notes_of
notes-empty [] h = refl
notes-empty (x ∷ l) h = absurd (not-suc-le-zero h)

pub notes_short : (l : List ℕ) → kind l ≡ 13 → length l < 2 → notes_of l ≡ none
notes_short l k h = notes_few l k (few l h)
  where
    few : (l : List ℕ) → length l < 2 → get_or l 1 0 < 1
    few [] h = omega arith
    few (x ∷ []) h = omega arith
    few (x ∷ y ∷ l) h = absurd (omega arith)

-- ---- where it ends

-- a place behind a place
pub place_map : {A B : Type 0} (p n : ℕ) (f : A → B) (o : Option (A × ℕ)) → place_of p (reading o none (λ a m. some (f a, n + m))) ≡ place_of (p + n) o
place_map p n f none = refl
place_map p n f (some (a, m)) = let e : p + (n + m) ≡ p + n + m = omega arith in ap Some e

pub name_struct : (p : ℕ) (l : List ℕ) → place_of p (sym_of l) ≡ place_of p (name_of Struct l)
unfolding name_of
name_struct p l = go (sym_of l)
  where
    go : (o : Option (Sym × ℕ)) → place_of p o ≡ place_of {A = Option Sym} p (reading o none (λ s n. some (some s, n)))
    go none = refl
    go (some (s, n)) = refl

-- symbols, one after another
pub syms-done : (p c : ℕ) (l : List ℕ) → c ≤ 0 → Some p ≡ place_of p (syms_of c l)
unfolding syms_of
syms-done p zero l h = ap Some (omega arith)
syms-done p (suc c) l h = absurd (not-suc-le-zero h)

module _ (s : List ℕ) (p e : ℕ) where
  pub syms_bad : (c : ℕ) → 0 < c → place_of p (sym_of (part s p e)) ≡ None → place_of p (syms_of c (part s p e)) ≡ None
  unfolding syms_of
  syms_bad zero h z = absurd (not-suc-le-zero h)
  syms_bad (suc c) h z = go (sym_of (part s p e)) z
    where
      go : (o : Option (Sym × ℕ)) → place_of p o ≡ None → place_of p (reading o none (λ a n. reading (syms_of c (drop n (part s p e))) none (λ ss m. some (a ∷ ss, n + m)))) ≡ None
      go none z = refl
      go (some (a, n)) z = let y : ◌≡◌ {A = ℕ} 0 1 = cc in absurd (omega arith)

  pub syms_one : (c q : ℕ) → 0 < c → place_of p (sym_of (part s p e)) ≡ Some q → place_of p (syms_of c (part s p e)) ≡ place_of q (syms_of (c - 1) (part s q e))
  unfolding syms_of
  syms_one zero q h z = absurd (not-suc-le-zero h)
  syms_one (suc c) q h z = let d : c ≡ suc c - 1 = omega arith in go (sym_of (part s p e)) z ∙ ap (λ (i : ℕ). place_of q (syms_of i (part s q e))) d
    where
      go : (o : Option (Sym × ℕ)) → place_of p o ≡ Some q
          → place_of p (reading o none (λ a n. reading (syms_of c (drop n (part s p e))) none (λ ss m. some (a ∷ ss, n + m)))) ≡ place_of q (syms_of c (part s q e))
      go none z = let y : ◌≡◌ {A = ℕ} 0 1 = cc in absurd (omega arith)
      go (some (a, n)) z =
          let y : p + n ≡ q = cc in
          place_map p n (λ ss. a ∷ ss) (syms_of c (drop n (part s p e)))
          ∙ ap (λ (l : List ℕ). place_of (p + n) (syms_of c l)) (part-drop s p e n)
          ∙ ap (λ (i : ℕ). place_of i (syms_of c (part s i e))) y

-- a name, and annotations behind it
module _ (k : Frame) (s : List ℕ) (p e : ℕ) where
  pub head_one : (q : ℕ) → place_of p (name_of k (part s p e)) ≡ Some q → place_of p (head_of k (part s p e)) ≡ place_of q (notes_of (part s q e))
  unfolding head_of
  head_one q z = go (name_of k (part s p e)) z
    where
      go : (o : Option (Option Sym × ℕ)) → place_of p o ≡ Some q
          → place_of {A = Head} p (reading o none (λ a n. reading (notes_of (drop n (part s p e))) none (λ ss m. some ((a, ss), n + m)))) ≡ place_of q (notes_of (part s q e))
      go none z = let y : ◌≡◌ {A = ℕ} 0 1 = cc in absurd (omega arith)
      go (some (a, n)) z =
          let y : p + n ≡ q = cc in
          place_map {B = Head} p n (λ ss. (a, ss)) (notes_of (drop n (part s p e)))
          ∙ ap (λ (l : List ℕ). place_of (p + n) (notes_of l)) (part-drop s p e n)
          ∙ ap (λ (i : ℕ). place_of i (notes_of (part s i e))) y

  pub head-none : place_of p (name_of k (part s p e)) ≡ None → place_of p (head_of k (part s p e)) ≡ None
  unfolding head_of
  head-none z = go (name_of k (part s p e)) z
    where
      go : (o : Option (Option Sym × ℕ)) → place_of p o ≡ None → place_of {A = Head} p (reading o none (λ a n. reading (notes_of (drop n (part s p e))) none (λ ss m. some ((a, ss), n + m)))) ≡ None
      go none z = refl
      go (some (a, n)) z = let y : ◌≡◌ {A = ℕ} 0 1 = cc in absurd (omega arith)

-- what was read, from where it ends
pub place_read : {A : Type 0} (d : A) (at v : ℕ) (o : Option (A × ℕ)) → place_of at o ≡ Some v → (at ≤ v) × (o ≡ some (reading o d (λ a n. a), v - at))
place_read d at v none z = let y : ◌≡◌ {A = ℕ} 0 1 = cc in absurd (omega arith)
place_read d at v (some (a, n)) z = let y : at + n ≡ v = cc in let x : n ≡ v - at = omega arith in (omega arith, ap (λ (i : ℕ). some (a, i)) x)

-- it ends within the part
pub place-within : {A : Type 0} (enc : A → List ℕ) (s : List ℕ) (p e q : ℕ) (o : Option (A × ℕ)) → p ≤ e → e ≤ length s → Sound enc (part s p e) o → place_of p o ≡ Some q
    → (p ≤ q) × (q ≤ e)
place-within enc s p e q none h i g z = let y : ◌≡◌ {A = ℕ} 0 1 = cc in absurd (omega arith)
place-within enc s p e q (some (a, n)) h i (something g t) z =
    let y : p + n ≡ q = cc in
    let l = part_length s p e i in
    (omega arith, omega arith)
