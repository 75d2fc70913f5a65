-- Floats by one number each, from their bits. Assumes nothing.
use Rattle.std.specs.Ordering.{nat_cmp, ordering_then}
use Rattle.std.specs.Cmp.Lexicographic.{slice_cmp}
use Prim.Native.Nat.{ℕ, zero, suc, ◌+◌, ◌*◌, ◌/◌, ◌%◌, ◌<◌, ◌≤◌}
use mathlib.Core.Path.{◌≡◌, refl, sym, ap, ◌∙◌}
use mathlib.Core.List.{List, [], ◌∷◌}
use mathlib.Core.Bool.{Bool, true, false, not}
use mathlib.Core.Option.{Option, none, some}
use native.Mathlib.Omega.{arith}
use borrow.Author.Tests.{ne_eqb}
use lib.Dec.{leb}
use lib.IntN.{ℤ, pos}
use lib.Ieee.{Float, nan, inf, fin, binary64, of_bits, of_fields, odd, prec, low, hid}
use Rattle.floats.specs.Whole.{most_whole}
use Rattle.floats.specs.Value.{whole_of, up_to, magnitude, is_negative}
use Rattle.floats.proofs.ValueLaws.{nothing, magnitude_most}
use Rattle.tape.specs.Tree.{bit}
use Rattle.std.specs.declared.cmp.Ordering.{Ordering}
use Rattle.std.specs.declared.cmp.Ordering.TheVariants.{Less, Equal, Greater}
use Rattle.order.specs.Order.{integers, signed_by, rank, or_zero, whole_value}
use Rattle.order.specs.Steps.{by_sign, spread, float_number}
use Rattle.order.proofs.Combine.{less_is, greater_is, equal_is, Told, below, equal, over, tell}
use Rattle.order.proofs.Decimals.{by-sign}
use Rattle.order.proofs.CodeLaws.{then_equal}

-- ---- the numbers stand in the order of floats

abbrev keyed : ℕ → Bool → ℕ → List ℤ
keyed r s n = pos r ∷ signed_by s n ∷ pos (bit (not s)) ∷ []

module _ (n m : ℕ) (h : n ≤ most_whole) (k : m ≤ most_whole) where
  both_positive : nat_cmp n m ≡ nat_cmp (spread 1 false n) (spread 1 false m)
  both_positive = go (tell n m)
    where
      go : Told n m → nat_cmp n m ≡ nat_cmp (spread 1 false n) (spread 1 false m)
      go (below i) = less_is n m i ∙ sym (less_is (spread 1 false n) (spread 1 false m) (omega arith))
      go (equal i) = equal_is n m i ∙ sym (equal_is (spread 1 false n) (spread 1 false m) (omega arith))
      go (over i) = greater_is n m i ∙ sym (greater_is (spread 1 false n) (spread 1 false m) (omega arith))

  both_negative : nat_cmp m n ≡ nat_cmp (spread 1 true n) (spread 1 true m)
  both_negative = go (tell m n)
    where
      go : Told m n → nat_cmp m n ≡ nat_cmp (spread 1 true n) (spread 1 true m)
      go (below i) = less_is m n i ∙ sym (less_is (spread 1 true n) (spread 1 true m) (omega arith))
      go (equal i) = equal_is m n i ∙ sym (equal_is (spread 1 true n) (spread 1 true m) (omega arith))
      go (over i) = greater_is m n i ∙ sym (greater_is (spread 1 true n) (spread 1 true m) (omega arith))

  -- by value, then negative before positive
  finite : (s t : Bool) → ordering_then (by_sign s t n m) (ordering_then (nat_cmp (bit (not s)) (bit (not t))) Equal) ≡ nat_cmp (spread 1 s n) (spread 1 t m)
  finite false false = sym (then_equal (nat_cmp n m)) ∙ both_positive
  finite true true = sym (then_equal (nat_cmp m n)) ∙ both_negative
  finite false true = go (tell (n + m) 0)
    where
      go : Told (n + m) 0 → ordering_then (nat_cmp (n + m) 0) Greater ≡ nat_cmp (spread 1 false n) (spread 1 true m)
      go (below i) = absurd (omega arith)
      go (equal i) = ap (λ (w : Ordering). ordering_then w Greater) (equal_is (n + m) 0 i) ∙ sym (greater_is (spread 1 false n) (spread 1 true m) (omega arith))
      go (over i) = ap (λ (w : Ordering). ordering_then w Greater) (greater_is (n + m) 0 i) ∙ sym (greater_is (spread 1 false n) (spread 1 true m) (omega arith))
  finite true false = go (tell 0 (n + m))
    where
      go : Told 0 (n + m) → ordering_then (nat_cmp 0 (n + m)) Less ≡ nat_cmp (spread 1 true n) (spread 1 false m)
      go (below i) = ap (λ (w : Ordering). ordering_then w Less) (less_is 0 (n + m) i) ∙ sym (less_is (spread 1 true n) (spread 1 false m) (omega arith))
      go (equal i) = ap (λ (w : Ordering). ordering_then w Less) (equal_is 0 (n + m) i) ∙ sym (less_is (spread 1 true n) (spread 1 false m) (omega arith))
      go (over i) = absurd (omega arith)

or_most : (x : Float) → or_zero (magnitude x) ≤ most_whole
or_most x = go (magnitude x) refl
  where
    go : (o : Option ℕ) → magnitude x ≡ o → or_zero o ≤ most_whole
    go none q = omega arith
    go (some n) q = magnitude_most x n q

-- rank, value and sign of a float, and no more of it
data Seen : ℕ → Bool → ℕ → Type 0 where
  lowest : Seen 0 true 0
  number : (s : Bool) (n : ℕ) → n ≤ most_whole → Seen 1 s n
  highest : Seen 2 false 0
  no_number : Seen 3 false 0

seen : (x : Float) → Seen (rank x) (is_negative x) (or_zero (magnitude x))
unfolding is_negative
seen nan = unfold magnitude whole_of up_to in no_number
seen (inf true) = unfold magnitude whole_of up_to in lowest
seen (inf false) = unfold magnitude whole_of up_to in highest
seen (fin s m e) = number s (or_zero (magnitude (fin s m e))) (or_most (fin s m e))

seen_order : {r q : ℕ} {s t : Bool} {n m : ℕ} → Seen r s n → Seen q t m → slice_cmp integers (keyed r s n) (keyed q t m) ≡ nat_cmp (spread r s n) (spread q t m)
seen_order lowest lowest = refl
seen_order lowest (number t m k) = sym (less_is 0 (spread 1 t m) (above t))
  where
    above : (t : Bool) → 0 < spread 1 t m
    above true = omega arith
    above false = omega arith
seen_order lowest highest = refl
seen_order lowest no_number = refl
seen_order (number s n h) lowest = sym (greater_is (spread 1 s n) 0 (above s))
  where
    above : (s : Bool) → 0 < spread 1 s n
    above true = omega arith
    above false = omega arith
seen_order (number s n h) (number t m k) = ap (λ (w : Ordering). ordering_then w (ordering_then (nat_cmp (bit (not s)) (bit (not t))) Equal)) (by-sign s t n m) ∙ finite n m h k s t
seen_order (number s n h) highest = sym (less_is (spread 1 s n) (3 + 2 * most_whole) (under s))
  where
    under : (s : Bool) → spread 1 s n < 3 + 2 * most_whole
    under true = omega arith
    under false = omega arith
seen_order (number s n h) no_number = sym (less_is (spread 1 s n) (4 + 2 * most_whole) (under s))
  where
    under : (s : Bool) → spread 1 s n < 4 + 2 * most_whole
    under true = omega arith
    under false = omega arith
seen_order highest lowest = refl
seen_order highest (number t m k) = sym (greater_is (3 + 2 * most_whole) (spread 1 t m) (under t))
  where
    under : (t : Bool) → spread 1 t m < 3 + 2 * most_whole
    under true = omega arith
    under false = omega arith
seen_order highest highest = refl
seen_order highest no_number = refl
seen_order no_number lowest = refl
seen_order no_number (number t m k) = sym (greater_is (4 + 2 * most_whole) (spread 1 t m) (under t))
  where
    under : (t : Bool) → spread 1 t m < 4 + 2 * most_whole
    under true = omega arith
    under false = omega arith
seen_order no_number highest = refl
seen_order no_number no_number = refl

-- THE LAW: the numbers stand as what floats are compared by
pub floats_by : (x y : Float) → slice_cmp integers (pos (rank x) ∷ whole_value x ∷ pos (bit (not (is_negative x))) ∷ []) (pos (rank y) ∷ whole_value y ∷ pos (bit (not (is_negative y))) ∷ []) ≡ nat_cmp (float_number x) (float_number y)
unfolding whole_value float_number
floats_by x y = seen_order (seen x) (seen y)

-- ---- from the bits

-- the top bit
abbrev pub negative : ℕ → Bool
negative b = leb 0x8000_0000_0000_0000 b

data Shape (b : ℕ) : Type 0 where
  is_nan : 0x7FF0_0000_0000_0000 < b % 0x8000_0000_0000_0000 → of_bits binary64 b ≡ nan → Shape b
  is-inf : b % 0x8000_0000_0000_0000 ≡ 0x7FF0_0000_0000_0000 → of_bits binary64 b ≡ inf (negative b) → Shape b
  is-fin : b % 0x8000_0000_0000_0000 < 0x7FF0_0000_0000_0000 → (rank (of_bits binary64 b) ≡ 1) × (is_negative (of_bits binary64 b) ≡ negative b) → Shape b

odd-fin : (d : ℕ) (s : Bool) (q k l : ℕ) → (rank (odd d s q k l) ≡ 1) × (is_negative (odd d s q k l) ≡ s)
unfolding odd is_negative
odd-fin d s zero k l = (refl, refl)
odd-fin d s (suc q) k l = (refl, refl)

fields-fin : (s : Bool) (x t : ℕ) → (x ≡ 2047 → ⊥) → (rank (of_fields binary64 s x t) ≡ 1) × (is_negative (of_fields binary64 s x t) ≡ s)
unfolding of_fields
fields-fin s zero t h = odd-fin (prec binary64) s t 0 (low binary64)
fields-fin s (suc x) t h = rw (ne_eqb (suc x) 2047 h) (odd-fin (prec binary64) s (hid binary64 + t) x (low binary64))

fields-inf : (s : Bool) (x t : ℕ) → x ≡ 2047 → t ≡ 0 → of_fields binary64 s x t ≡ inf s
unfolding of_fields
fields-inf s x t p q = ap (λ (i : ℕ). of_fields binary64 s i t) p ∙ ap (λ (i : ℕ). of_fields binary64 s 2047 i) q

fields_nan : (s : Bool) (x t : ℕ) → x ≡ 2047 → (t ≡ 0 → ⊥) → of_fields binary64 s x t ≡ nan
unfolding of_fields
fields_nan s x t p q = ap (λ (i : ℕ). of_fields binary64 s i t) p ∙ rw (ne_eqb t 0 q)

shape : (b : ℕ) → b < 0x1_0000_0000_0000_0000 → Shape b
unfolding of_bits
shape b h = go (tell (b % 0x8000_0000_0000_0000) 0x7FF0_0000_0000_0000)
  where
    go : Told (b % 0x8000_0000_0000_0000) 0x7FF0_0000_0000_0000 → Shape b
    go (below i) = is-fin i (fields-fin (negative b) (b % 0x8000_0000_0000_0000 / 0x10_0000_0000_0000) (b % 0x10_0000_0000_0000) (λ z. omega arith))
    go (equal i) = is-inf i (fields-inf (negative b) (b % 0x8000_0000_0000_0000 / 0x10_0000_0000_0000) (b % 0x10_0000_0000_0000) (omega arith) (omega arith))
    go (over i) = is_nan i (fields_nan (negative b) (b % 0x8000_0000_0000_0000 / 0x10_0000_0000_0000) (b % 0x10_0000_0000_0000) (omega arith) (λ z. omega arith))

module _ (b : ℕ) (h : b < 0x1_0000_0000_0000_0000) where
  abbrev x : Float
  x = of_bits binary64 b

  by_parts : {r : ℕ} {s : Bool} {o : Option ℕ} → rank x ≡ r → is_negative x ≡ s → magnitude x ≡ o → float_number x ≡ spread r s (or_zero o)
  unfolding float_number
  by_parts p q m = rw (p, q, m) refl

  no_size : (y : Float) {n : ℕ} → x ≡ y → magnitude x ≡ some n → magnitude y ≡ none → ⊥
  no_size y {n} p m z = nothing n (sym z ∙ sym (ap magnitude p) ∙ m)

  pub whole-told : (n : ℕ) → some n ≡ magnitude x → spread 1 (negative b) n ≡ float_number x
  whole-told n m = go (shape b h)
    where
      go : Shape b → spread 1 (negative b) n ≡ float_number x
      go (is_nan i e) = absurd (no_size nan e (sym m) (unfold magnitude whole_of up_to in refl))
      go (is-inf i e) = absurd (no_size (inf (negative b)) e (sym m) (unfold magnitude whole_of up_to in refl))
      go (is-fin i e) = sym (by_parts e.0 e.1 (sym m))

  module _ (m : none ≡ magnitude x) where
    pub nan-told : 0x7FF0_0000_0000_0000 < b % 0x8000_0000_0000_0000 → 4 + 2 * most_whole ≡ float_number x
    nan-told k = go (shape b h)
      where
        go : Shape b → 4 + 2 * most_whole ≡ float_number x
        go (is_nan i e) = sym (ap float_number e ∙ unfold float_number in refl)
        go (is-inf i e) = absurd (omega arith)
        go (is-fin i e) = absurd (omega arith)

    pub inf-told : b % 0x8000_0000_0000_0000 ≡ 0x7FF0_0000_0000_0000 → (s : Bool) → negative b ≡ s → spread (rank (inf s)) s 0 ≡ float_number x
    inf-told k s q = go (shape b h)
      where
        go : Shape b → spread (rank (inf s)) s 0 ≡ float_number x
        go (is_nan i e) = absurd (omega arith)
        go (is-inf i e) = let z : x ≡ inf s = e ∙ ap inf q in sym (by_parts (ap rank z) (ap is_negative z ∙ unfold is_negative in refl) (sym m))
        go (is-fin i e) = absurd (omega arith)

    pub fin-told : b % 0x8000_0000_0000_0000 < 0x7FF0_0000_0000_0000 → spread 1 (negative b) 0 ≡ float_number x
    fin-told k = go (shape b h)
      where
        go : Shape b → spread 1 (negative b) 0 ≡ float_number x
        go (is_nan i e) = absurd (omega arith)
        go (is-inf i e) = absurd (omega arith)
        go (is-fin i e) = sym (by_parts e.0 e.1 (sym m))
