-- What stands at a place where a scalar or a name is known to stand, by its kind byte and the numbers on the tape. Assumes nothing.
use Prim.Native.Nat.{ℕ, ◌+◌, ◌-◌, ◌<◌, ◌≤◌}
use mathlib.Core.Path.{◌≡◌, refl, sym, ap, ◌∙◌}
use mathlib.Core.List.{List, ◌∷◌}
use mathlib.Core.Bool.{Bool, true, false}
use mathlib.Core.Option.{Option, none, some}
use native.Mathlib.Omega.{arith}
use native.Mathlib.Decide.{dec_le}
use borrow.Author.Tests.{eqb-true, eqb-false}
use lib.Dec.{eqb}
use lib.ListN.{length, get_or, take, drop}
use lib.Seq.{get_or-take}
use Rattle.text_rules.specs.Text.{Sym}
use Rattle.numbers.specs.declared.timestamp.Timestamp.{Timestamp}
use Rattle.tape.specs.Bytes.{part, le_number, signed}
use Rattle.tape.specs.Tree.{Scalar, int, decimal, timestamp, symbol, string, blob, encode_sym, encode_scalar}
use Rattle.tape.specs.Tape.{reading, kind, length_of, sym_of, name_of, decimal_of, timestamp_as, symbol_of, sized_of, scalar_of}
use Rattle.tape.specs.Steps.{meant_scalar, size_of, size_taken}
use Rattle.tape.specs.Fine.{Bytes}
use Rattle.tape.specs.declared.Frame.TheVariants.{Struct}
use Rattle.std.specs.Prelude.{Some, None}
use Rattle.tape.specs.declared.Scalar.{Scalar as ScalarC}
use Rattle.tape.specs.declared.Scalar.TheVariants as C
use Rattle.tape.proofs.Numbers.{bytes_drop, bytes_take}
use Rattle.tape.proofs.Reading.{Sound, something, scalar_sound}
use Rattle.tape.proofs.Parts.{part_length, part-first, part_byte, part-number}
use Rattle.tape.proofs.CodeReading.{int_short, int_some, decimal_short, decimal_over, decimal_some, timestamp_short, timestamp-some, timestamp-part, length_over, length_some, text_by, sym-text, sym_id, sym_none, sym_short, scalar_int, scalar_decimal, scalar-timestamp, scalar-symbol, scalar-string, scalar-blob, scalar-empty}
use Rattle.writer.specs.Steps.{Rare, name_in}

-- ---- symbols

module _ (l : List ℕ) (z : sym_of l ≡ none → ⊥) where
  sym-room : 5 ≤ length l
  sym-room = go (dec_le 5 (length l))
    where
      go : Dec (5 ≤ length l) → 5 ≤ length l
      go (yes h) = h
      go (no h) = absurd (z (sym_short l (omega arith)))

  sym_six : (kind l ≡ 7 → ⊥) → kind l ≡ 6
  sym_six h = go (eqb (kind l) 6) refl
    where
      go : (b : Bool) → eqb (kind l) 6 ≡ b → kind l ≡ 6
      go true q = eqb-true _ _ q
      go false q = absurd (z (sym_none l (eqb-false _ _ q) h))

  sym-fits : kind l ≡ 6 → 5 + length_of l ≤ length l
  sym-fits k = go (dec_le (5 + length_of l) (length l))
    where
      go : Dec (5 + length_of l ≤ length l) → 5 + length_of l ≤ length l
      go (yes h) = h
      go (no h) = absurd (z (sym-text l None k (sym (length_over l (omega arith)))))

  sym-is : kind l ≡ 6 → sym_of l ≡ some (Sym.text (take (length_of l) (drop 5 l)), 5 + length_of l)
  sym-is k = sym-text l (Some (length_of l)) k (sym (length_some l (sym-fits k)))

-- ---- scalars

-- the scalar x of n bytes stands at a place
pub record LeafAt (s : List ℕ) (at e : ℕ) (x : Scalar) (n : ℕ) : Type 0 where
  pub room : at + n ≤ e
  pub read : scalar_of (part s at e) ≡ some (x, n)

module _ (s : List ℕ) (at e : ℕ) (w : at ≤ e) (i : e ≤ length s) (z : 0 < size_taken (scalar_of (part s at e))) where
  abbrev l : List ℕ
  l = part s at e

  there : scalar_of l ≡ none → ⊥
  there q = let y : size_taken (scalar_of l) ≡ 0 = ap (λ (o : Option (Scalar × ℕ)). size_taken o) q in omega arith

  -- it has n bytes, if with fewer there is none
  long : (n : ℕ) → (length l < n → scalar_of l ≡ none) → n ≤ length l
  long n f = go (dec_le n (length l))
    where
      go : Dec (n ≤ length l) → n ≤ length l
      go (yes h) = h
      go (no h) = absurd (there (f (omega arith)))

  leaf_place : at < e
  leaf_place = let n = part_length s at e i in let h = long 1 (λ h. scalar-empty l (omega arith)) in omega arith

  first_byte : kind l ≡ get_or s at 0
  first_byte = part-first s at e leaf_place

  pub int_leaf : get_or s at 0 ≡ 2 → LeafAt s at e (int (signed 64 (le_number 8 (drop (at + 1) s)))) 9
  int_leaf k =
      let t = scalar_int l (first_byte ∙ k) in
      let n = part_length s at e i in
      let h = long 9 (λ h. t ∙ int_short l h) in
      let u = part-number s at e 8 1 (omega arith) in
      record { room = omega arith; read = t ∙ int_some l h ∙ ap (λ (b : ℕ). some (int (signed 64 b), 9)) u }

  pub decimal_leaf : get_or s at 0 ≡ 4 → LeafAt s at e (decimal (eqb (get_or s (at + 1) 0) 1) (le_number 8 (drop (at + 2) s)) (signed 32 (le_number 4 (drop (at + 10) s)))) 14
  decimal_leaf k =
      let t = scalar_decimal l (first_byte ∙ k) in
      let n = part_length s at e i in
      let h = long 14 (λ h. t ∙ decimal_short l h) in
      let b = part_byte s at e 1 (omega arith) in
      let m = part-number s at e 8 2 (omega arith) in
      let x = part-number s at e 4 10 (omega arith) in
      record { room = omega arith; read = t ∙ decimal_some l h (low t h (dec_le (get_or l 1 0) 1)) ∙ rw (b, m, x) refl }
    where
      low : scalar_of l ≡ decimal_of l → 14 ≤ length l → Dec (get_or l 1 0 ≤ 1) → get_or l 1 0 ≤ 1
      low t h (yes g) = g
      low t h (no g) = absurd (there (t ∙ decimal_over l h (omega arith)))

  pub timestamp_leaf : get_or s at 0 ≡ 5 → LeafAt s at e (timestamp (timestamp_as (drop at s))) 16
  timestamp_leaf k =
      let t = scalar-timestamp l (first_byte ∙ k) in
      let n = part_length s at e i in
      let h = long 16 (λ h. t ∙ timestamp_short l h) in
      record { room = omega arith; read = t ∙ timestamp-some l h ∙ ap (λ (x : Timestamp). some (timestamp x, 16)) (sym (timestamp-part s at e (omega arith))) }

  module _ (n : ℕ) (j : n ≡ le_number 4 (drop (at + 1) s)) where
    -- the length behind the kind byte
    length-is : at + 5 ≤ e → length_of l ≡ n
    length-is r = part-number s at e 4 1 (omega arith) ∙ sym j

    pub symbol_leaf : get_or s at 0 ≡ 6 → LeafAt s at e (symbol (Sym.text (take n (drop 5 l)))) (5 + n)
    unfolding symbol_of
    symbol_leaf k =
        let c : kind l ≡ 6 = first_byte ∙ k in
        let t : scalar_of l ≡ symbol_of l = scalar-symbol l (omega arith) (omega arith) in
        let p : sym_of l ≡ none → ⊥ = λ q. there (t ∙ ap (λ (o : Option (Sym × ℕ)). reading {B = Option (Scalar × ℕ)} o none (λ x m. some (symbol x, m))) q) in
        let f = sym-fits l p c in
        let len = part_length s at e i in
        let g = length-is (omega arith) in
        record {
          room = omega arith;
          read = t
              ∙ ap (λ (o : Option (Sym × ℕ)). reading {B = Option (Scalar × ℕ)} o none (λ x m. some (symbol x, m))) (sym-is l p c)
              ∙ ap (λ (m : ℕ). some (symbol (Sym.text (take m (drop 5 l))), 5 + m)) g;
        }

    sized_leaf : (c : List ℕ → Scalar) → scalar_of l ≡ sized_of c l → LeafAt s at e (c (take n (drop 5 l))) (5 + n)
    unfolding sized_of
    sized_leaf c t =
        let f : 5 + length_of l ≤ length l = long (5 + length_of l) (λ h. t ∙ ap (λ (o : Option (List ℕ × ℕ)). reading {B = Option (Scalar × ℕ)} o none (λ x m. some (c x, m))) (text_by l None (sym (length_over l h)))) in
        let len = part_length s at e i in
        let g = length-is (omega arith) in
        record {
          room = omega arith;
          read = t
              ∙ ap (λ (o : Option (List ℕ × ℕ)). reading {B = Option (Scalar × ℕ)} o none (λ x m. some (c x, m))) (text_by l (Some (length_of l)) (sym (length_some l f)))
              ∙ ap (λ (m : ℕ). some (c (take m (drop 5 l)), 5 + m)) g;
        }

    pub string_leaf : get_or s at 0 ≡ 8 → LeafAt s at e (string (take n (drop 5 l))) (5 + n)
    string_leaf k = sized_leaf string (scalar-string l (first_byte ∙ k))

    pub blob_leaf : get_or s at 0 ≡ 15 → LeafAt s at e (blob (take n (drop 5 l))) (5 + n)
    blob_leaf k = sized_leaf blob (scalar-blob l (first_byte ∙ k))

  -- a scalar that is written through `Scalar`, by the kinds that it is not of
  module _ (all : Bytes s) where
    kind-is : (x : Scalar) (n k : ℕ) (r : List ℕ) → 0 < n → Sound encode_scalar l (some (x, n)) → encode_scalar x ≡ k ∷ r → get_or s at 0 ≡ k
    kind-is x n k r p (something h t) q =
        sym first_byte ∙ sym (get_or-take n l 0 0 p) ∙ ap (λ (u : List ℕ). get_or u 0 0) (sym (t (bytes_take (e - at) (drop at s) (bytes_drop at s all))) ∙ q)

    pub rare_leaf : (x : ScalarC) → scalar_of l ≡ some (meant_scalar x l, size_of x)
        → (get_or s at 0 ≡ 2 → ⊥) → (get_or s at 0 ≡ 4 → ⊥) → (get_or s at 0 ≡ 5 → ⊥) → (get_or s at 0 ≡ 6 → ⊥) → (get_or s at 0 ≡ 8 → ⊥) → Rare x
    unfolding encode_scalar encode_sym
    rare_leaf (C.Null t) q a b c d f = tt
    rare_leaf (C.«Bool» t) q a b c d f = tt
    rare_leaf (C.Int n) q a b c d f = a (kind-is (int n) 9 2 _ (omega arith) (rw q at (scalar_sound l)) refl)
    rare_leaf (C.«Float» x) q a b c d f = tt
    rare_leaf (C.Decimal neg m x) q a b c d f = b (kind-is (decimal neg m x) 14 4 _ (omega arith) (rw q at (scalar_sound l)) refl)
    rare_leaf (C.Timestamp x) q a b c d f = c (kind-is (timestamp x) 16 5 _ (omega arith) (rw q at (scalar_sound l)) refl)
    rare_leaf (C.Symbol n) q a b c d f = d (kind-is (symbol (Sym.text (take n (drop 5 l)))) (5 + n) 6 _ (omega arith) (rw q at (scalar_sound l)) refl)
    rare_leaf (C.Id i) q a b c d f = tt
    rare_leaf (C.«String» n) q a b c d f = f (kind-is (string (take n (drop 5 l))) (5 + n) 8 _ (omega arith) (rw q at (scalar_sound l)) refl)
    rare_leaf (C.Clob n) q a b c d f = tt
    rare_leaf (C.Blob n) q a b c d f = tt

-- ---- names

-- the name x of n bytes stands at a place
pub record NameAt (s : List ℕ) (at e : ℕ) (x : Sym) (n : ℕ) : Type 0 where
  pub room : at + n ≤ e
  pub read : name_of Struct (part s at e) ≡ some (some x, n)

module _ (s : List ℕ) (at e : ℕ) (w : at ≤ e) (i : e ≤ length s) (z : name_of Struct (part s at e) ≡ some (name_in Struct (part s at e), size_taken (name_of Struct (part s at e)))) where
  abbrev m : List ℕ
  m = part s at e

  named : (o : Option (Sym × ℕ)) → sym_of m ≡ o → name_of Struct m ≡ reading {B = Option (Option Sym × ℕ)} o none (λ x n. some (some x, n))
  unfolding name_of
  named o q = ap (λ (o : Option (Sym × ℕ)). reading {B = Option (Option Sym × ℕ)} o none (λ x n. some (some x, n))) q

  symbol_there : sym_of m ≡ none → ⊥
  symbol_there q =
      let y : ◌≡◌ {A = Option (Option Sym × ℕ)} none (some (name_in Struct m, size_taken (name_of Struct m))) = sym (named none q) ∙ z in
      let x : ◌≡◌ {A = ℕ} 0 1 = cc in
      omega arith

  pub name_header : at + 5 ≤ e
  name_header = let r = sym-room m symbol_there in let n = part_length s at e i in omega arith

  name-first : kind m ≡ get_or s at 0
  name-first = let r = name_header in part-first s at e (omega arith)

  -- of the kinds 6 and 7, the one that is not below 7
  kind_seven : 7 ≤ get_or s at 0 → kind m ≡ 7
  kind_seven h = go (dec_le (kind m) 7)
    where
      go : Dec (kind m ≤ 7) → kind m ≡ 7
      go (yes g) = let f = name-first in omega arith
      go (no g) = let six = sym_six m symbol_there (λ q. omega arith) in absurd (omega arith)

  module _ (n : ℕ) (j : n ≡ le_number 4 (drop (at + 1) s)) where
    name-length : length_of m ≡ n
    name-length = let r = name_header in part-number s at e 4 1 (omega arith) ∙ sym j

    pub id_name : 7 ≤ get_or s at 0 → NameAt s at e (Sym.id n) 5
    id_name k =
        record {
          room = name_header;
          read = named (some (Sym.id (length_of m), 5)) (sym_id m (kind_seven k) (sym-room m symbol_there)) ∙ ap (λ (i : ℕ). some (some (Sym.id i), 5)) name-length;
        }

    pub text_name : (get_or s at 0 ≡ 7 → ⊥) → NameAt s at e (Sym.text (take n (drop 5 m))) (5 + n)
    text_name k =
        let c = sym_six m symbol_there (λ q. k (sym name-first ∙ q)) in
        let f = sym-fits m symbol_there c in
        let len = part_length s at e i in
        let r = name_header in
        let g = name-length in
        record {
          room = omega arith;
          read = named (some (Sym.text (take (length_of m) (drop 5 m)), 5 + length_of m)) (sym-is m symbol_there c) ∙ ap (λ (i : ℕ). some (some (Sym.text (take i (drop 5 m))), 5 + i)) g;
        }
