-- What stands at a place where a scalar stands, by its kind byte and the bytes behind it. Assumes nothing.
use Rattle.std.specs.Ordering.{nat_cmp, ordering_then, is_ne}
use Rattle.std.specs.Cmp.Lexicographic.{slice_cmp}
use Prim.Native.Nat.{ℕ, ◌+◌, ◌-◌, ◌%◌, ◌<◌, ◌≤◌}
use mathlib.Core.Path.{◌≡◌, refl, sym, ap, ◌∙◌}
use mathlib.Core.List.{List, [], ◌∷◌}
use mathlib.Core.Bool.{Bool, true, false, not}
use mathlib.Core.Option.{Option, none, some}
use native.Mathlib.Omega.{arith}
use native.Mathlib.Decide.{dec_le, ℕ_discrete}
use borrow.Author.Tests.{eqb-true, eqb-false}
use lib.Dec.{eqb, ltb}
use lib.IntN.{ℤ, pos}
use lib.Ieee.{Float, nan, binary64, of_bits, of_fields}
use lib.ListN.{length, get_or, take, drop}
use Rattle.output.specs.Logic.{if}
use Rattle.text_rules.specs.Text.{Sym}
use Rattle.floats.specs.Value.{is_negative}
use Rattle.numbers.specs.declared.timestamp.Timestamp.{Timestamp}
use Rattle.tape.specs.Bytes.{part, le_number, signed}
use Rattle.tape.specs.Tree.{Scalar, null, bool, int, float, timestamp, symbol, string, clob, blob, bit}
use Rattle.tape.specs.Tape.{reading, kind, length_of, float_as, decimal_of, timestamp_as, symbol_of, sized_of, scalar_of}
use Rattle.std.specs.Prelude.{Some, None}
use Rattle.tape.proofs.Parts.{part_length, part-first, part_byte, part-number, part-inner}
use Rattle.tape.proofs.CodeReading.{byte_short, byte_over, byte_some, int_short, int_some, float_short, float-some, decimal_short, decimal_over, decimal_some, timestamp_short, timestamp-some, timestamp-part, length_over, length_some, text_by, sym-text, sym_id, sym_short, scalar-null, scalar-bool, scalar_int, scalar-float, scalar_decimal, scalar-timestamp, scalar-symbol, scalar-string, scalar-clob, scalar-blob, scalar-other, scalar-empty}
use Rattle.std.specs.declared.cmp.Ordering.{Ordering}
use Rattle.std.specs.declared.cmp.Ordering.TheVariants.{Equal}
use Rattle.order.specs.Order.{integers, Decimal, decimals, rank, whole_value, fields_of, Key, by_numbers, by_bytes, by_decimal, key_of, keys, scalars}
use Rattle.tape.specs.Steps.{size_taken}
use Rattle.order.specs.Steps.{scalar_in, Leaf, float_number, number_at, decimal_at, text_at}
use Rattle.order.proofs.Combine.{equal_is}
use Rattle.order.proofs.CodeLaws.{then_equal, decided}
use Rattle.order.proofs.FloatLaws.{floats_by}

-- ---- keys of one kind

same_kind : (k : ℕ) → nat_cmp k k ≡ Equal
same_kind k = equal_is k k refl

no_decimals : decimals (false, 0, pos 0) (false, 0, pos 0) ≡ Equal
unfolding Rattle.order.specs.Order.values
no_decimals = refl

pub keys-numbers : (k : ℕ) (l m : List ℤ) → keys (by_numbers k l) (by_numbers k m) ≡ slice_cmp integers l m
keys-numbers k l m = rw (same_kind k, no_decimals) (sym (then_equal (slice_cmp integers l m)))

pub keys-bytes : (k : ℕ) (s t : List ℕ) → keys (by_bytes k s) (by_bytes k t) ≡ slice_cmp nat_cmp s t
keys-bytes k s t = rw (same_kind k, no_decimals) (sym (then_equal (slice_cmp nat_cmp s t)))

pub keys_decimal : (k : ℕ) (d f : Decimal) → keys (by_decimal k d) (by_decimal k f) ≡ decimals d f
keys_decimal k d f = rw (same_kind k) refl

pub keys_one : (k : ℕ) (x y : ℤ) → keys (by_numbers k (x ∷ [])) (by_numbers k (y ∷ [])) ≡ integers x y
keys_one k x y = keys-numbers k (x ∷ []) (y ∷ []) ∙ sym (then_equal (integers x y))

-- kinds that differ decide
pub keys_kind : (x y : Key) (w : Ordering) → w ≡ nat_cmp x.0 y.0 → is_ne w ≡ true → w ≡ keys x y
keys_kind x y = decided (nat_cmp x.0 y.0) (ordering_then (slice_cmp integers x.1 y.1) (ordering_then (slice_cmp nat_cmp x.2 y.2) (decimals x.3 y.3)))

-- ---- floats by their bits

-- the one NaN has its bits too
float_is : (b : ℕ) → (float_as b ≡ none → ⊥) → key_of (reading (float_as b) (null 0) (λ s n. s)) ≡ key_of (float (of_bits binary64 b))
unfolding float_as
float_is b h = go (eqb b 0x7FF8_0000_0000_0000) (ltb 0x7FF0_0000_0000_0000 (b % 0x8000_0000_0000_0000)) refl h
  where
    the_nan : nan ≡ of_bits binary64 0x7FF8_0000_0000_0000
    the_nan = unfold of_bits of_fields in refl

    go : (t u : Bool) → eqb b 0x7FF8_0000_0000_0000 ≡ t → (if {A = Option (Scalar × ℕ)} t (some (float nan, 9)) (if u none (some (float (of_bits binary64 b), 9))) ≡ none → ⊥)
        → key_of (reading (if {A = Option (Scalar × ℕ)} t (some (float nan, 9)) (if u none (some (float (of_bits binary64 b), 9)))) (null 0) (λ s n. s)) ≡ key_of (float (of_bits binary64 b))
    go true u p h = ap (λ (x : Float). key_of (float x)) (the_nan ∙ ap (of_bits binary64) (sym (eqb-true _ _ p)))
    go false true p h = absurd (h refl)
    go false false p h = refl

pub keys-float : (x y : Float) → keys (key_of (float x)) (key_of (float y)) ≡ nat_cmp (float_number x) (float_number y)
unfolding key_of
keys-float x y = keys-numbers 3 (pos (rank x) ∷ whole_value x ∷ pos (bit (not (is_negative x))) ∷ []) (pos (rank y) ∷ whole_value y ∷ pos (bit (not (is_negative y))) ∷ []) ∙ floats_by x y

-- ---- a scalar at a place

-- its key, and that its n bytes stand there
pub record KeyAt (s : List ℕ) (at e n : ℕ) (x : Key) : Type 0 where
  pub room : at + n ≤ e
  pub key : key_of (scalar_in (part s at e)) ≡ x

data Which (k : ℕ) : Type 0 where
  is-low : k ≤ 1 → Which k
  is_two : k ≡ 2 → Which k
  is-three : k ≡ 3 → Which k
  is_four : k ≡ 4 → Which k
  is-five : k ≡ 5 → Which k
  is_six : k ≡ 6 → Which k
  is_seven : k ≡ 7 → Which k
  is_eight : k ≡ 8 → Which k
  is_nine : k ≡ 9 → Which k
  is_fifteen : k ≡ 15 → Which k
  is-other : 9 < k → (k ≡ 15 → ⊥) → Which k

which : (k : ℕ) → Which k
which k = go (dec_le k 1) (dec_le k 2) (dec_le k 3) (dec_le k 4) (dec_le k 5) (dec_le k 6) (dec_le k 7) (dec_le k 8) (dec_le k 9) (ℕ_discrete k 15)
  where
    go : Dec (k ≤ 1) → Dec (k ≤ 2) → Dec (k ≤ 3) → Dec (k ≤ 4) → Dec (k ≤ 5) → Dec (k ≤ 6) → Dec (k ≤ 7) → Dec (k ≤ 8) → Dec (k ≤ 9) → Dec (k ≡ 15) → Which k
    go (yes h) a b c d e f g i v15 = is-low h
    go (no z) (yes h) b c d e f g i v15 = is_two (omega arith)
    go (no z) (no y) (yes h) c d e f g i v15 = is-three (omega arith)
    go (no z) (no y) (no x) (yes h) d e f g i v15 = is_four (omega arith)
    go (no z) (no y) (no x) (no w) (yes h) e f g i v15 = is-five (omega arith)
    go (no z) (no y) (no x) (no w) (no v) (yes h) f g i v15 = is_six (omega arith)
    go (no z) (no y) (no x) (no w) (no v) (no u) (yes h) g i v15 = is_seven (omega arith)
    go (no z) (no y) (no x) (no w) (no v) (no u) (no t) (yes h) i v15 = is_eight (omega arith)
    go (no z) (no y) (no x) (no w) (no v) (no u) (no t) (no s) (yes h) v15 = is_nine (omega arith)
    go (no z) (no y) (no x) (no w) (no v) (no u) (no t) (no s) (no r) (yes q) = is_fifteen q
    go (no z) (no y) (no x) (no w) (no v) (no u) (no t) (no s) (no r) (no q) = is-other (omega arith) q

bit_byte : (b : ℕ) → b ≤ 1 → bit (eqb b 1) ≡ b
bit_byte b h = go (eqb b 1) refl
  where
    go : (t : Bool) → eqb b 1 ≡ t → bit t ≡ b
    go true p = sym (eqb-true _ _ p)
    go false p = let z : (b ≡ 1 → ⊥) = eqb-false b 1 p in by z (dec_le b 0)
      where
        by : (b ≡ 1 → ⊥) → Dec (b ≤ 0) → 0 ≡ b
        by z (yes i) = omega arith
        by z (no i) = absurd (z (omega arith))

module _ (s : List ℕ) (at e : ℕ) (g : Leaf s at e) where
  abbrev l : List ℕ
  l = part s at e

  there : scalar_of l ≡ none → ⊥
  there q = let y : size_taken (scalar_of l) ≡ 0 = ap (λ (o : Option (Scalar × ℕ)). size_taken o) q in let z = g.some in omega arith

  -- it has n bytes, if with fewer there is none
  long : (n : ℕ) → (length l < n → scalar_of l ≡ none) → n ≤ length l
  long n f = go (dec_le n (length l))
    where
      go : Dec (n ≤ length l) → n ≤ length l
      go (yes h) = h
      go (no h) = absurd (there (f (omega arith)))

  len : length l ≡ e - at
  len = part_length s at e g.room

  pub leaf_place : at < e
  leaf_place = let n = len in let h = long 1 (λ h. scalar-empty l (omega arith)) in omega arith

  first_byte : kind l ≡ get_or s at 0
  first_byte = part-first s at e leaf_place

  key_from : (x : Scalar) (n : ℕ) → scalar_of l ≡ some (x, n) → key_of (scalar_in l) ≡ key_of x
  unfolding scalar_in
  key_from x n r = ap (λ (o : Option (Scalar × ℕ)). key_of (reading o (null 0) (λ s n. s))) r

  byte_low : (most : ℕ) (f : ℕ → Scalar) → scalar_of l ≡ Rattle.tape.specs.Tape.byte_of most f l → (2 ≤ length l) × (get_or l 1 0 ≤ most)
  byte_low most f t = (long 2 (λ h. t ∙ byte_short l most f h), go (dec_le (get_or l 1 0) most))
    where
      go : Dec (get_or l 1 0 ≤ most) → get_or l 1 0 ≤ most
      go (yes h) = h
      go (no h) = absurd (there (t ∙ byte_over l most f (omega arith)))

  pub low_key : get_or s at 0 ≤ 1 → KeyAt s at e 2 (by_numbers (get_or s at 0) (pos (get_or s (at + 1) 0) ∷ []))
  unfolding key_of
  low_key h = go (dec_le (get_or s at 0) 0)
    where
      n : length l ≡ e - at
      n = len

      go : Dec (get_or s at 0 ≤ 0) → KeyAt s at e 2 (by_numbers (get_or s at 0) (pos (get_or s (at + 1) 0) ∷ []))
      go (yes i) =
          let k : get_or s at 0 ≡ 0 = omega arith in
          let t = scalar-null l (first_byte ∙ k) in
          let b = byte_low 12 null t in
          let n = len in
          let x : get_or l 1 0 ≡ get_or s (at + 1) 0 = part_byte s at e 1 (omega (arith, b.0)) in
          record { room = omega (arith, b.0); key = key_from (null (get_or l 1 0)) 2 (t ∙ byte_some l 12 null b.0 b.1) ∙ ap (λ (i : ℕ). by_numbers 0 (pos i ∷ [])) x ∙ ap (λ (i : ℕ). by_numbers i (pos (get_or s (at + 1) 0) ∷ [])) (sym k) }
      go (no i) =
          let k : get_or s at 0 ≡ 1 = omega arith in
          let t = scalar-bool l (first_byte ∙ k) in
          let b = byte_low 1 (λ b. bool (eqb b 1)) t in
          let n = len in
          let x : get_or l 1 0 ≡ get_or s (at + 1) 0 = part_byte s at e 1 (omega (arith, b.0)) in
          record { room = omega (arith, b.0); key = key_from (bool (eqb (get_or l 1 0) 1)) 2 (t ∙ byte_some l 1 (λ b. bool (eqb b 1)) b.0 b.1) ∙ ap (λ (i : ℕ). by_numbers 1 (pos i ∷ [])) (bit_byte (get_or l 1 0) b.1 ∙ x) ∙ ap (λ (i : ℕ). by_numbers i (pos (get_or s (at + 1) 0) ∷ [])) (sym k) }

  pub int_key : get_or s at 0 ≡ 2 → KeyAt s at e 9 (by_numbers 2 (signed 64 (number_at s at 8 1) ∷ []))
  unfolding key_of
  int_key k =
      let t = scalar_int l (first_byte ∙ k) in
      let n = len in
      let h = long 9 (λ h. t ∙ int_short l h) in
      let u = part-number s at e 8 1 (omega arith) in
      record { room = omega arith; key = key_from (int (signed 64 (le_number 8 (drop 1 l)))) 9 (t ∙ int_some l h) ∙ ap (λ (b : ℕ). by_numbers 2 (signed 64 b ∷ [])) u }

  pub float_at : get_or s at 0 ≡ 3 → KeyAt s at e 9 (key_of (float (of_bits binary64 (number_at s at 8 1))))
  unfolding scalar_in
  float_at k =
      let t = scalar-float l (first_byte ∙ k) in
      let n = len in
      let h = long 9 (λ h. t ∙ float_short l h) in
      let u = part-number s at e 8 1 (omega arith) in
      let r = t ∙ float-some l h ∙ ap float_as u in
      record { room = omega arith; key = ap (λ (o : Option (Scalar × ℕ)). key_of (reading o (null 0) (λ s n. s))) r ∙ float_is (number_at s at 8 1) (λ z. there (r ∙ z)) }

  pub decimal_key : get_or s at 0 ≡ 4 → KeyAt s at e 14 (by_decimal 4 (decimal_at s at))
  unfolding key_of
  decimal_key k =
      let t = scalar_decimal l (first_byte ∙ k) in
      let n = len in
      let h = long 14 (λ h. t ∙ decimal_short l h) in
      let b = part_byte s at e 1 (omega arith) in
      let m = part-number s at e 8 2 (omega arith) in
      let x = part-number s at e 4 10 (omega arith) in
      record { room = omega arith; key = key_from _ 14 (t ∙ decimal_some l h (least t h (dec_le (get_or l 1 0) 1))) ∙ rw (b, m, x) refl }
    where
      least : scalar_of l ≡ decimal_of l → 14 ≤ length l → Dec (get_or l 1 0 ≤ 1) → get_or l 1 0 ≤ 1
      least t h (yes g) = g
      least t h (no g) = absurd (there (t ∙ decimal_over l h (omega arith)))

  pub timestamp_key : get_or s at 0 ≡ 5 → KeyAt s at e 16 (by_numbers 5 (fields_of (timestamp_as (drop at s))))
  unfolding key_of
  timestamp_key k =
      let t = scalar-timestamp l (first_byte ∙ k) in
      let n = len in
      let h = long 16 (λ h. t ∙ timestamp_short l h) in
      record { room = omega arith; key = key_from (timestamp (timestamp_as l)) 16 (t ∙ timestamp-some l h) ∙ ap (λ (x : Timestamp). by_numbers 5 (fields_of x)) (sym (timestamp-part s at e (omega arith))) }

  head_key : 5 ≤ length l → length_of l ≡ number_at s at 4 1
  head_key h = let n = len in part-number s at e 4 1 (omega arith)

  pub id-key : get_or s at 0 ≡ 7 → KeyAt s at e 5 (by_numbers 7 (pos (number_at s at 4 1) ∷ []))
  unfolding key_of symbol_of
  id-key k =
      let c : kind l ≡ 7 = first_byte ∙ k in
      let t : scalar_of l ≡ symbol_of l = scalar-symbol l (omega arith) (omega arith) in
      let n = len in
      let h = long 5 (λ h. t ∙ ap (λ (o : Option (Sym × ℕ)). reading {B = Option (Scalar × ℕ)} o none (λ x m. some (symbol x, m))) (sym_short l h)) in
      record { room = omega arith; key = key_from (symbol (Sym.id (length_of l))) 5 (t ∙ ap (λ (o : Option (Sym × ℕ)). reading {B = Option (Scalar × ℕ)} o none (λ x m. some (symbol x, m))) (sym_id l c h)) ∙ ap (λ (i : ℕ). by_numbers 7 (pos i ∷ [])) (head_key h) }

  -- text, from its length
  text_key_from : (k : ℕ) (f : List ℕ → Scalar) → ((x : List ℕ) → key_of (f x) ≡ by_bytes k x) → 5 + length_of l ≤ length l → scalar_of l ≡ some (f (take (length_of l) (drop 5 l)), 5 + length_of l)
      → KeyAt s at e (5 + number_at s at 4 1) (by_bytes k (text_at s at))
  text_key_from k f z h r =
      let n = len in
      let m = head_key (omega arith) in
      let p : take (length_of l) (drop 5 l) ≡ text_at s at = ap (λ (i : ℕ). take i (drop 5 l)) m ∙ part-inner s at e 5 (number_at s at 4 1) (omega arith) in
      record { room = omega arith; key = key_from (f (take (length_of l) (drop 5 l))) (5 + length_of l) r ∙ z (take (length_of l) (drop 5 l)) ∙ ap (by_bytes k) p }

  symbol_key : get_or s at 0 ≡ 6 → KeyAt s at e (5 + number_at s at 4 1) (by_bytes 6 (text_at s at))
  unfolding key_of symbol_of
  symbol_key k =
      let c : kind l ≡ 6 = first_byte ∙ k in
      let t : scalar_of l ≡ symbol_of l = scalar-symbol l (omega arith) (omega arith) in
      let on : Option (Sym × ℕ) → Option (Scalar × ℕ) = λ o. reading o none (λ x m. some (symbol x, m)) in
      let h = long (5 + length_of l) (λ h. t ∙ ap on (sym-text l None c (sym (length_over l h)))) in
      text_key_from 6 (λ x. symbol (Sym.text x)) (λ x. refl) h (t ∙ ap on (sym-text l (Some (length_of l)) c (sym (length_some l h))))

  sized_key : (k : ℕ) (f : List ℕ → Scalar) → ((x : List ℕ) → key_of (f x) ≡ by_bytes k x) → scalar_of l ≡ sized_of f l → KeyAt s at e (5 + number_at s at 4 1) (by_bytes k (text_at s at))
  unfolding sized_of
  sized_key k f z t =
      let on : Option (List ℕ × ℕ) → Option (Scalar × ℕ) = λ o. reading o none (λ x m. some (f x, m)) in
      let h = long (5 + length_of l) (λ h. t ∙ ap on (text_by l None (sym (length_over l h)))) in
      text_key_from k f z h (t ∙ ap on (text_by l (Some (length_of l)) (sym (length_some l h))))

  no_other : 9 < get_or s at 0 → (get_or s at 0 ≡ 15 → ⊥) → ⊥
  no_other h m = let f = first_byte in there (scalar-other l (omega arith) (λ e. omega arith) (λ e. omega arith) (λ e. m (sym f ∙ e)))

  -- no kind but 6, 8, 9 and 15 is left
  pub text-key : 5 < get_or s at 0 → (get_or s at 0 ≡ 7 → ⊥) → KeyAt s at e (5 + number_at s at 4 1) (by_bytes (get_or s at 0) (text_at s at))
  unfolding key_of
  text-key h z = go (which (get_or s at 0))
    where
      go : Which (get_or s at 0) → KeyAt s at e (5 + number_at s at 4 1) (by_bytes (get_or s at 0) (text_at s at))
      go (is-low k) = absurd (omega arith)
      go (is_two k) = absurd (omega arith)
      go (is-three k) = absurd (omega arith)
      go (is_four k) = absurd (omega arith)
      go (is-five k) = absurd (omega arith)
      go (is_six k) = rw k (symbol_key k)
      go (is_seven k) = absurd (z k)
      go (is_eight k) = rw k (sized_key 8 string (λ x. refl) (scalar-string l (first_byte ∙ k)))
      go (is_nine k) = rw k (sized_key 9 clob (λ x. refl) (scalar-clob l (first_byte ∙ k)))
      go (is_fifteen k) = rw k (sized_key 15 blob (λ x. refl) (scalar-blob l (first_byte ∙ k)))
      go (is-other k m) = absurd (no_other k m)

  -- the kind number in the key is the kind byte
  pub kind_key : (key_of (scalar_in (part s at e))).0 ≡ get_or s at 0
  kind_key = go (which (get_or s at 0))
    where
      by : (x : Key) → key_of (scalar_in (part s at e)) ≡ x → (key_of (scalar_in (part s at e))).0 ≡ x.0
      by x q = ap (λ (y : Key). y.0) q

      go : Which (get_or s at 0) → (key_of (scalar_in (part s at e))).0 ≡ get_or s at 0
      go (is-low k) = by _ (low_key k).key
      go (is_two k) = by _ (int_key k).key ∙ sym k
      go (is-three k) = unfold key_of in by _ (float_at k).key ∙ sym k
      go (is_four k) = by _ (decimal_key k).key ∙ sym k
      go (is-five k) = by _ (timestamp_key k).key ∙ sym k
      go (is_six k) = by _ (text-key (omega arith) (λ z. omega arith)).key
      go (is_seven k) = by _ (id-key k).key ∙ sym k
      go (is_eight k) = by _ (text-key (omega arith) (λ z. omega arith)).key
      go (is_nine k) = by _ (text-key (omega arith) (λ z. omega arith)).key
      go (is_fifteen k) = by _ (text-key (omega arith) (λ z. omega arith)).key
      go (is-other k m) = absurd (no_other k m)

-- a comparison of two scalars by their keys
pub keyed : {r : Ordering} (s t : Scalar) {x y : Key} (w : Ordering) → r ≡ w → key_of s ≡ x → key_of t ≡ y → keys x y ≡ w → r ≡ (scalars s t)
keyed {r} s t {x} {y} w e p q h = e ∙ (sym h) ∙ ap (λ (z : Key). (keys z y)) (sym p) ∙ ap (λ (z : Key). (keys (key_of s) z)) (sym q)
