-- How many bytes a value takes, by its kind byte and the number behind it. Assumes nothing.
use Prim.Native.Nat.{ℕ, ◌+◌, ◌%◌, ◌<◌, ◌≤◌}
use mathlib.Core.Path.{◌≡◌, refl, sym, ap, ◌∙◌}
use mathlib.Core.List.{List}
use mathlib.Core.Bool.{Bool, true, false}
use mathlib.Core.Option.{Option, none, some}
use native.Mathlib.Omega.{arith}
use native.Mathlib.Decide.{dec_le, ℕ_discrete}
use borrow.Author.Tests.{leb-true, eq-eqb}
use lib.Dec.{leb, ltb, eqb}
use lib.ListN.{length, get_or, drop}
use Rattle.output.specs.Logic.{if}
use Rattle.text_rules.specs.Text.{Sym}
use Rattle.tape.specs.Bytes.{le_number}
use Rattle.tape.specs.Tree.{Scalar, scalar}
use Rattle.tape.specs.Tape.{reading, kind, length_of, text_of, sym_of, byte_of, int_of, float_as, float_of, decimal_of, timestamp_of, symbol_of, sized_of, scalar_of, absent, leaf, body, open_of, value_of}
use Rattle.tape.specs.Steps.{place_of, size_taken, size_is, size_at}
use Rattle.tape.specs.CheckSteps.{frame_of}
use Rattle.tape.specs.declared.Frame.{Frame}
use Rattle.std.specs.Prelude.{Some, None}
use Rattle.tape.proofs.Reading.{if_all}
use Rattle.tape.proofs.CodeReading.{scalar-null, scalar-bool, scalar_int, scalar-float, scalar_decimal, scalar-timestamp, scalar-symbol, scalar-string, scalar-clob, scalar-blob, scalar-other, value_marker, value-scalar, value-empty}
use Rattle.tape.proofs.CodeFacts.{value_open}

-- what is read takes n bytes, and those are there
data Takes {A : Type 0} (l : List ℕ) (n : ℕ) : Option (A × ℕ) → Type 0 where
  nothing : Takes l n none
  whole : {a : A} → n ≤ length l → Takes l n (some (a, n))

map_takes : {A B : Type 0} (l : List ℕ) (n : ℕ) (f : A → B) (o : Option (A × ℕ)) → Takes l n o → Takes l n (reading {B = Option (B × ℕ)} o none (λ a m. some (f a, m)))
map_takes l n f none nothing = nothing
map_takes l n f (some (a, m)) (whole h) = whole h

module _ (l : List ℕ) where
  byte_takes : (most : ℕ) (f : ℕ → Scalar) → Takes l 2 (byte_of most f l)
  unfolding byte_of
  byte_takes most f = if_all (Takes l 2) (λ b. if_all (Takes l 2) {b = leb (get_or l 1 0) most} (λ _. whole (leb-true _ _ b)) (λ _. nothing)) (λ _. nothing)

  int_takes : Takes l 9 (int_of l)
  unfolding int_of
  int_takes = if_all (Takes l 9) (λ b. whole (leb-true _ _ b)) (λ _. nothing)

  float_takes : Takes l 9 (float_of l)
  unfolding float_of float_as
  float_takes = if_all (Takes l 9) (λ b. if_all (Takes l 9) {b = eqb (le_number 8 (drop 1 l)) 0x7FF8_0000_0000_0000} (λ _. whole (leb-true _ _ b)) (λ _. if_all (Takes l 9) {b = ltb 0x7FF0_0000_0000_0000 (le_number 8 (drop 1 l) % 0x8000_0000_0000_0000)} (λ _. nothing) (λ _. whole (leb-true _ _ b)))) (λ _. nothing)

  decimal_takes : Takes l 14 (decimal_of l)
  unfolding decimal_of
  decimal_takes = if_all (Takes l 14) (λ b. if_all (Takes l 14) {b = leb (get_or l 1 0) 1} (λ _. whole (leb-true _ _ b)) (λ _. nothing)) (λ _. nothing)

  timestamp_takes : Takes l 16 (timestamp_of l)
  unfolding timestamp_of
  timestamp_takes = if_all (Takes l 16) (λ b. whole (leb-true _ _ b)) (λ _. nothing)

  text_takes : Takes l (5 + length_of l) (text_of l)
  unfolding text_of
  text_takes = if_all (Takes l (5 + length_of l)) (λ b. whole (leb-true _ _ b)) (λ _. nothing)

  id_takes : kind l ≡ 7 → Takes l 5 (sym_of l)
  unfolding sym_of
  id_takes k = rw k (if_all (Takes l 5) (λ b. whole (leb-true _ _ b)) (λ _. nothing))

  word_takes : kind l ≡ 6 → Takes l (5 + length_of l) (sym_of l)
  unfolding sym_of
  word_takes k = rw (eq-eqb (kind l) 6 k) (map_takes l (5 + length_of l) Sym.text (text_of l) text_takes)

  sized_takes : (c : List ℕ → Scalar) → Takes l (5 + length_of l) (sized_of c l)
  unfolding sized_of
  sized_takes c = map_takes l (5 + length_of l) c (text_of l) text_takes

-- a value takes n bytes, and those are there
pub record Sized (l : List ℕ) (n : ℕ) : Type 0 where
  pub size : size_at l ≡ n
  pub room : n ≤ length l

module _ (l : List ℕ) (z : 0 < size_at l) where
  nowhere : value_of true l ≡ absent → ⊥
  unfolding size_at
  nowhere e = let y : size_at l ≡ 0 = ap size_is e in omega arith

  pub some_there : 0 < length l
  some_there = go (dec_le (length l) 0)
    where
      go : Dec (length l ≤ 0) → 0 < length l
      go (yes h) = absurd (nowhere (value-empty true l h))
      go (no h) = omega arith

  of_scalar : (n : ℕ) → value_of true l ≡ reading (scalar_of l) absent (λ s m. leaf (scalar s) m) → Takes l n (scalar_of l) → Sized l n
  unfolding size_at
  of_scalar n e t = go (scalar_of l) refl t
    where
      go : (o : Option (Scalar × ℕ)) → scalar_of l ≡ o → Takes l n o → Sized l n
      go none q nothing = absurd (nowhere (e ∙ ap (λ (o : Option (Scalar × ℕ)). reading o absent (λ s m. leaf (scalar s) m)) q))
      go (some (s, m)) q (whole h) = record { size = ap size_is (e ∙ ap (λ (o : Option (Scalar × ℕ)). reading o absent (λ s m. leaf (scalar s) m)) q); room = h }

  below_ten : kind l < 10 → value_of true l ≡ reading (scalar_of l) absent (λ s m. leaf (scalar s) m)
  below_ten h = value-scalar true l (λ e. omega arith) (λ e. omega arith) (λ e. omega arith) (λ e. omega arith)

  pub size_two : kind l < 2 → Sized l 2
  size_two h = of_scalar 2 (below_ten (omega arith)) (go (dec_le (kind l) 0))
    where
      go : Dec (kind l ≤ 0) → Takes l 2 (scalar_of l)
      go (yes k) = rw (scalar-null l (omega arith)) (byte_takes l _ _)
      go (no k) = rw (scalar-bool l (omega arith)) (byte_takes l _ _)

  pub size_nine : 2 ≤ kind l → kind l < 4 → Sized l 9
  size_nine g h = of_scalar 9 (below_ten (omega arith)) (go (dec_le (kind l) 2))
    where
      go : Dec (kind l ≤ 2) → Takes l 9 (scalar_of l)
      go (yes k) = rw (scalar_int l (omega arith)) (int_takes l)
      go (no k) = rw (scalar-float l (omega arith)) (float_takes l)

  pub size_decimal : kind l ≡ 4 → Sized l 14
  size_decimal k = of_scalar 14 (below_ten (omega arith)) (rw (scalar_decimal l k) (decimal_takes l))

  pub size-timestamp : kind l ≡ 5 → Sized l 16
  size-timestamp k = of_scalar 16 (below_ten (omega arith)) (rw (scalar-timestamp l k) (timestamp_takes l))

  pub size_id : kind l ≡ 7 → Sized l 5
  size_id k = of_scalar 5 (below_ten (omega arith)) (rw (scalar-symbol l (omega arith) (omega arith)) (symbols k))
    where
      symbols : kind l ≡ 7 → Takes l 5 (symbol_of l)
      symbols k = unfold symbol_of in map_takes l 5 _ (sym_of l) (id_takes l k)

  pub size_marker : kind l ≡ 14 → Sized l 1
  unfolding size_at
  size_marker k = record { size = ap size_is (value_marker true l k); room = let s = some_there in omega arith }

  opened : (f : Frame) → value_of true l ≡ open_of f l → Sized l (5 + length_of l)
  unfolding open_of size_at
  opened f e = go (leb (5 + length_of l) (length l)) refl
    where
      is : (b : Bool) → leb (5 + length_of l) (length l) ≡ b → value_of true l ≡ if b (body f (length_of l)) absent
      is b q = e ∙ ap (λ (b : Bool). if b (body f (length_of l)) absent) q

      go : (b : Bool) → leb (5 + length_of l) (length l) ≡ b → Sized l (5 + length_of l)
      go true q = record { size = ap size_is (is true q); room = leb-true _ _ q }
      go false q = absurd (nowhere (is false q))

  -- all others have a length
  pub size_long : 6 ≤ kind l → (kind l ≡ 7 → ⊥) → (kind l ≡ 14 → ⊥) → Sized l (5 + length_of l)
  size_long g i m = go (ℕ_discrete (kind l) 6) (ℕ_discrete (kind l) 8) (ℕ_discrete (kind l) 9) (ℕ_discrete (kind l) 15) (dec_le (kind l) 12)
    where
      n : ℕ
      n = 5 + length_of l

      words : kind l ≡ 6 → Takes l n (symbol_of l)
      words k = unfold symbol_of in map_takes l n _ (sym_of l) (word_takes l k)

      go : Dec (kind l ≡ 6) → Dec (kind l ≡ 8) → Dec (kind l ≡ 9) → Dec (kind l ≡ 15) → Dec (kind l ≤ 12) → Sized l n
      go (yes k) b c d e = of_scalar n (below_ten (omega arith)) (rw (scalar-symbol l (omega arith) (omega arith)) (words k))
      go (no a) (yes k) c d e = of_scalar n (below_ten (omega arith)) (rw (scalar-string l k) (sized_takes l _))
      go (no a) (no b) (yes k) d e = of_scalar n (below_ten (omega arith)) (rw (scalar-clob l k) (sized_takes l _))
      go (no a) (no b) (no c) (yes k) e = of_scalar n (value-scalar true l (λ e. omega arith) (λ e. omega arith) (λ e. omega arith) (λ e. omega arith)) (rw (scalar-blob l k) (sized_takes l _))
      go (no a) (no b) (no c) (no d) (yes k) = opened (frame_of (kind l)) (value_open true l (omega arith) (omega arith))
      go (no a) (no b) (no c) (no d) (no k) = of_scalar n (value-scalar true l (λ e. omega arith) (λ e. omega arith) (λ e. omega arith) m) (rw (scalar-other l (omega arith) b c d) nothing)

-- ---- what a rule read from a place on, by where that ends

pub taken_none : {A : Type 0} (at : ℕ) (o : Option (A × ℕ)) → place_of at o ≡ None → size_taken o ≡ 0
taken_none at none e = refl
taken_none at (some (a, n)) e = let y : ◌≡◌ {A = ℕ} 0 1 = cc in absurd (omega arith)

pub taken_there : {A : Type 0} (at v : ℕ) (o : Option (A × ℕ)) → place_of at o ≡ Some v → v ≡ at + size_taken o
taken_there at v none e = let y : ◌≡◌ {A = ℕ} 0 1 = cc in absurd (omega arith)
taken_there at v (some (a, n)) e = let y : at + n ≡ v = cc in sym y
