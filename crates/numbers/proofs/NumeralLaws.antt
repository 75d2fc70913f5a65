-- The rules of numerals at a place of a text. Assumes nothing.
use mathlib.Core.Path.{◌≡◌, refl}
use mathlib.Core.Bool.{Bool, true, false, not, ◌&&◌}
use mathlib.Core.List.{List}
use mathlib.Core.Option.{none, some}
use Prim.Native.Nat.{ℕ, zero, suc, ◌^◌, ◌≤◌, ◌<◌}
use native.Mathlib.Decide.{dec_le}
use native.Mathlib.Omega.{arith}
use lib.Dec.{leb, eqb}
use lib.IntN.{ℤ, pos, negsuc}
use lib.ListN.{length, drop, get_or}
use borrow.Author.Tests.{lt-ltb, le-ltb, le-leb, lt-leb, ne_eqb}
use Rattle.output.specs.Logic.{if, byte}
use Rattle.text_rules.specs.Digits.{run, number, whole}
use Rattle.text_rules.specs.Texts.{starts}
use Rattle.text_rules.proofs.DigitLaws.{number_more, number_small, whole_run}
use Rattle.text_rules.proofs.Places.{byte_at}
use Rattle.numbers.specs.Numeral.{Numeral, ReadNumeral, with_sign, ranged_int, shifted, ranged_decimal, power_of, behind_d, behind_point, behind_whole, unsigned}
use Rattle.numbers.proofs.Signed.{i64-fits, i64-none}

-- ---- a number that does not fit is no magnitude, and makes no decimal and no int

either : (b : Bool) (o o' : ReadNumeral) → o ≡ none → o' ≡ none → if b o o' ≡ none
either true o o' h g = h
either false o o' h g = g

decimal_over : (neg : Bool) (m n : ℕ) (e : ℤ) (t : List ℕ) → 2 ^ 64 ≤ m → ranged_decimal neg m n e t ≡ none
unfolding ranged_decimal
decimal_over neg m n e t h = rw le-ltb

power_over : (neg : Bool) (m n : ℕ) (minus : Bool) (es t : List ℕ) → 2 ^ 64 ≤ m → power_of neg m n minus es t ≡ none
unfolding power_of
power_over neg m n minus es t h = either (leb 1 (length es) && leb (length es) 10) _ _ (decimal_over neg m n (with_sign minus (number 0 es)) t h) refl

d_over : (neg : Bool) (m n : ℕ) (t : List ℕ) → 2 ^ 64 ≤ m → behind_d neg m n t ≡ none
unfolding behind_d
d_over neg m n t h = either (starts (byte "-") t) _ _ (power_over neg m n true _ _ h) (either (starts (byte "+") t) _ _ (power_over neg m n false _ _ h) (power_over neg m n false _ _ h))

pub point_over : (neg : Bool) (m n : ℕ) (t : List ℕ) → 2 ^ 64 ≤ m → behind_point neg m n t ≡ none
unfolding behind_point
point_over neg m n t h = either (starts (byte "d") t) _ _ (d_over neg m n (drop 1 t) h) (decimal_over neg m n (pos 0) t h)

-- an int of this magnitude
pub int_none : (m : ℕ) (t : List ℕ) → 2 ^ 63 ≤ m → ranged_int false m t ≡ none
unfolding ranged_int
int_none m t h = rw (i64-none (pos m) h)

pub int_none-below : (m : ℕ) (t : List ℕ) → 2 ^ 63 < m → ranged_int true m t ≡ none
unfolding ranged_int
int_none-below zero t h = refl
int_none-below (suc m) t h = rw (ne_eqb (suc m) 0 (λ (e : suc m ≡ 0). omega arith), i64-none (negsuc m) (omega arith))

pub int_some : (m : ℕ) (t : List ℕ) → m < 2 ^ 63 → ranged_int false m t ≡ some (Numeral.int (pos m), t)
unfolding ranged_int
int_some m t h = rw (i64-fits (pos m) (record { sfits = h }))

pub int_some-below : (m : ℕ) (t : List ℕ) → m < 2 ^ 63 → ranged_int true (suc m) t ≡ some (Numeral.int (negsuc m), t)
unfolding ranged_int
int_some-below m t h = rw (ne_eqb (suc m) 0 (λ (e : suc m ≡ 0). omega arith), i64-fits (negsuc m) (record { sfits = h }))

int_over : (neg : Bool) (m : ℕ) (t : List ℕ) → 2 ^ 64 ≤ m → ranged_int neg m t ≡ none
int_over true m t h = int_none-below m t (omega arith)
int_over false m t h = int_none m t (omega arith)

whole_over : (neg : Bool) (m : ℕ) (t : List ℕ) → 2 ^ 64 ≤ m → behind_whole neg m t ≡ none
unfolding behind_whole
whole_over neg m t h =
    either (starts (byte ".") t) _ _
    (point_over neg _ _ _ (omega (arith, number_more m (run (drop 1 t)))))
    (either (starts (byte "d") t) _ _ (d_over neg m 0 (drop 1 t) h) (int_over neg m t h))

pub unsigned_over : (neg : Bool) (t : List ℕ) → 2 ^ 64 ≤ number 0 (run t) → unsigned neg t ≡ none
unfolding unsigned
unsigned_over neg t h = either (whole (run t)) _ _ (whole_over neg _ _ h) refl

-- the same of a written exponent: its digits are more than ten
pub power_long : (neg : Bool) (m n : ℕ) (minus : Bool) (t r : List ℕ) → 2 ^ 64 ≤ number 0 (run t) → power_of neg m n minus (run t) r ≡ none
unfolding power_of
power_long neg m n minus t r h = go (dec_le (length (run t)) 10)
  where
    go : Dec (length (run t) ≤ 10) → if (leb 1 (length (run t)) && leb (length (run t)) 10) (ranged_decimal neg m n (with_sign minus (number 0 (run t))) r) none ≡ none
    go (yes l) = let bad : ⊥ = omega (arith, number_small t l) in absurd bad
    go (no l) = rw (le-leb 1 (length (run t)) (omega arith), lt-leb (length (run t)) 10 (omega arith))

pub whole-at : (t : List ℕ) (i : ℕ) → i < length t → 2 ≤ length (run (drop i t)) → whole (run (drop i t)) ≡ not (eqb (get_or t i 0) 48)
whole-at t i l h = rw (byte_at t i l) (whole_run _ _ (rw (byte_at t i l) at h))

-- the exponent of a decimal
pub decimal_some : (neg : Bool) (m n : ℕ) (z e : ℤ) (t : List ℕ) → m < 2 ^ 64 → shifted n z ≡ some e → ranged_decimal neg m n z t ≡ some (Numeral.decimal neg m e, t)
unfolding ranged_decimal
decimal_some neg m n z e t h s = rw (lt-ltb m (2 ^ 64) h, s)

pub decimal_none : (neg : Bool) (m n : ℕ) (z : ℤ) (t : List ℕ) → m < 2 ^ 64 → shifted n z ≡ none → ranged_decimal neg m n z t ≡ none
unfolding ranged_decimal
decimal_none neg m n z t h s = rw (lt-ltb m (2 ^ 64) h, s)
