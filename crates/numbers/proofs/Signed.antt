-- Signed machine numbers, and differences of naturals as integers. Assumes nothing.
use mathlib.Core.Path.{◌≡◌, refl, sym, ap, ◌∙◌}
use mathlib.Core.Bool.{Bool, true, false}
use mathlib.Core.Option.{none, some}
use Prim.Native.Nat.{ℕ, zero, suc, ◌+◌, ◌-◌, ◌^◌, ◌≤◌, ◌<◌}
use native.Mathlib.Decide.{dec_le}
use native.Mathlib.Nat.{not-suc-le-zero}
use native.Mathlib.Omega.{arith}
use lib.Dec.{ltb, leb-suc-suc}
use lib.IntN.{ℤ, pos, negsuc, neg_ℤ, ◌-ℤ◌}
use lib.Signed.{mag, lt_z}
use mir.Syntax.{Width, w32, w64}
use mir.Val.{SFits, hbits, to_z, of_z}
use mir.ValLaws.{to_z_pos, to_z-of_z}
use borrow.Author.Tests.{ltb-true, lt-ltb, le-ltb}
use Rattle.std.specs.Prelude.{Some, None, Ok, Err, Result}
use Rattle.std.specs.Result.{OkIff, result_ok}
use Rattle.std.proofs.lemmas.Option.{same_Some, none-some}
use Rattle.output.specs.Logic.{if}
use Rattle.text_rules.proofs.DigitLaws.{never}
use Rattle.text_rules.specs.Reading.{found}
use Rattle.numbers.specs.Numeral.{held, in_i64, in_i32}

-- ---- the test `z < 0`: what z is, and how the machine reads it back from its bits

pub below-zero : (w : Width) (z : ℤ) → SFits w z → lt_z (to_z w (of_z w z)) (pos 0) ≡ true
    → (k : ℕ) × (z ≡ negsuc k) × (k < 2 ^ hbits w) × (to_z w (of_z w z) ≡ negsuc k)
below-zero w (pos k) s h =
    let z : ltb k 0 ≡ true = sym (ap (λ (x : ℤ). lt_z x (pos 0)) (to_z-of_z w (pos k) s)) ∙ h in
    absurd (not-suc-le-zero (ltb-true k 0 z))
below-zero w (negsuc k) s h = (k, refl, s.sfits, to_z-of_z w (negsuc k) s)

pub from_zero : (w : Width) (z : ℤ) → SFits w z → lt_z (to_z w (of_z w z)) (pos 0) ≡ false
    → (k : ℕ) × (z ≡ pos k) × (k < 2 ^ hbits w) × (to_z w (of_z w z) ≡ pos k)
from_zero w (pos k) s h = (k, refl, s.sfits, to_z-of_z w (pos k) s)
from_zero w (negsuc k) s h = never (sym (ap (λ (x : ℤ). lt_z x (pos 0)) (to_z-of_z w (negsuc k) s)) ∙ h)

-- a number that went through the machine's bits
pub read_back : (w : Width) (x z : ℤ) → x ≡ z → SFits w z → to_z w (of_z w x) ≡ z
read_back w x z e f = ap (λ (y : ℤ). to_z w (of_z w y)) e ∙ to_z-of_z w z f

-- the inverted bits of -(k + 1) are those of k
pub inverted : (k : ℕ) → k < 2 ^ 63 → to_z w64 (18446744073709551615 - of_z w64 (negsuc k)) ≡ pos k
inverted k l =
    let i : 18446744073709551615 - (2 ^ 64 - suc k) ≡ k = omega arith in
    ap (to_z w64) i ∙ to_z_pos w64 k l

-- the bits of k, inverted, are those of -(k + 1)
pub turned : (k : ℕ) → k < 2 ^ 63 → to_z w64 (18446744073709551615 - of_z w64 (pos k)) ≡ negsuc k
turned k l =
    let i : 18446744073709551615 - k ≡ 2 ^ 64 - suc k = omega arith in
    ap (to_z w64) i ∙ to_z-of_z w64 (negsuc k) (record { sfits = l })

-- ---- a number that i64 or i32 holds: `mag` is n both for n and for -(n + 1)

held-is : (high : ℕ) (z : ℤ) → held (suc high) high z ≡ if (ltb (mag z) (suc high)) (some z) none
unfolding held
held-is high (pos n) = rw (leb-suc-suc n high)
held-is high (negsuc n) = refl

module _ (high : ℕ) (z : ℤ) where
  held_fits : mag z < suc high → held (suc high) high z ≡ some z
  held_fits h = held-is high z ∙ rw (lt-ltb (mag z) (suc high) h)

  held_none : suc high ≤ mag z → held (suc high) high z ≡ none
  held_none h = held-is high z ∙ rw (le-ltb (mag z) (suc high) h)

  held-some : (y : ℤ) → held (suc high) high z ≡ some y → mag y < suc high
  held-some y h = go (ltb (mag z) (suc high)) refl (sym (held-is high z) ∙ h)
    where
      go : (b : Bool) → ltb (mag z) (suc high) ≡ b → if b (some z) none ≡ some y → mag y < suc high
      go true e g = let q : z ≡ y = cc in rw (sym q) (ltb-true (mag z) (suc high) e)
      go false e g = let n : ◌≡◌ {A = ℕ} 0 1 = cc in let bad : ⊥ = omega arith in absurd bad

pub i64-fits : (z : ℤ) → SFits w64 z → in_i64 z ≡ some z
i64-fits z f = held_fits 9_223_372_036_854_775_807 z f.sfits

pub i64-none : (z : ℤ) → 2 ^ 63 ≤ mag z → in_i64 z ≡ none
i64-none z h = held_none 9_223_372_036_854_775_807 z h

pub i64-some : (z y : ℤ) → in_i64 z ≡ some y → SFits w64 y
i64-some z y h = record { sfits = held-some 9_223_372_036_854_775_807 z y h }

pub i32_fits : (z : ℤ) → SFits w32 z → in_i32 z ≡ some z
i32_fits z f = held_fits 2_147_483_647 z f.sfits

pub i32_none : (z : ℤ) → 2 ^ 31 ≤ mag z → in_i32 z ≡ none
i32_none z h = held_none 2_147_483_647 z h

pub i32_some : (z y : ℤ) → in_i32 z ≡ some y → SFits w32 y
i32_some z y h = record { sfits = held-some 2_147_483_647 z y h }

-- ---- a conversion that may fail

pub told : {E : Type 0} (w : Width) (r : Result ℤ E) (z x : ℤ) → OkIff r (SFits w z) z → Some x ≡ result_ok r → SFits w z × (x ≡ z)
told w (Ok y) z x h e = (h.0, same_Some x y e ∙ h.1)
told w (Err e) z x h g = absurd (none-some x (sym g))

pub untold : {E : Type 0} (w : Width) (r : Result ℤ E) (z : ℤ) → OkIff r (SFits w z) z → None ≡ result_ok r → 2 ^ hbits w ≤ mag z
untold w (Ok y) z h e = absurd (none-some y e)
untold w (Err e) z h g = go (dec_le (2 ^ hbits w) (mag z))
  where
    go : Dec (2 ^ hbits w ≤ mag z) → 2 ^ hbits w ≤ mag z
    go (yes l) = l
    go (no l) = absurd (h (record { sfits = omega (arith, l) }))

pub in_i32-told : {E : Type 0} (r : Result ℤ E) (z : ℤ) → OkIff r (SFits w32 z) z → found (result_ok r) ≡ in_i32 z
in_i32-told (Ok x) z h = ap some h.1 ∙ sym (i32_fits z h.0)
in_i32-told (Err e) z h = sym (i32_none z (untold w32 (Err e) z h refl))

-- ---- differences

pub minus_minus : (e n : ℕ) → neg_ℤ (pos e) -ℤ pos n ≡ neg_ℤ (pos (e + n))
minus_minus zero zero = refl
minus_minus zero (suc n) = let i : 0 + suc n ≡ suc n = omega arith in rw (lt-ltb 0 (suc n) (omega arith), i) (ap negsuc (omega arith))
minus_minus (suc e) zero = let i : suc e + 0 ≡ suc e = omega arith in rw (lt-ltb 0 (suc e) (omega arith), i) (ap negsuc (omega arith))
minus_minus (suc e) (suc n) = let i : suc e + suc n ≡ suc (suc (e + n)) = omega arith in rw i

pub plus-minus : (e n : ℕ) → n ≤ e → pos e -ℤ pos n ≡ pos (e - n)
plus-minus e zero h = ap pos (omega arith)
plus-minus e (suc n) h = rw (le-ltb e (suc n) h)

pub zero_minus : (k : ℕ) → pos 0 -ℤ pos k ≡ neg_ℤ (pos k)
zero_minus k = let z : 0 + k ≡ k = omega arith in minus_minus 0 k ∙ ap (λ (i : ℕ). neg_ℤ (pos i)) z

pub minus-zero : (e : ℤ) → e -ℤ pos 0 ≡ e
minus-zero (pos k) = ap pos (omega arith)
minus-zero (negsuc k) = let z : suc k + 0 ≡ suc k = omega arith in minus_minus (suc k) 0 ∙ ap (λ (i : ℕ). neg_ℤ (pos i)) z
