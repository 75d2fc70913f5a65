-- What the code of decimals needs: the digits before a point, and which form a text has. Assumes nothing.
use mathlib.Core.Path.{◌≡◌, refl, sym, ap, ◌∙◌}
use mathlib.Core.Bool.{Bool, true, false}
use mathlib.Core.List.{List, [], ◌∷◌, ◌++◌}
use Prim.Native.Nat.{ℕ, zero, suc, ◌+◌, ◌-◌, ◌/◌, ◌^◌, ◌≤◌, ◌<◌}
use lib.Pow.{pow-add}
use native.Mathlib.Nat.{add-zero, add-suc, div-one, le-div_iff_mul-le, div-lt_iff_lt-mul}
use native.Mathlib.Decide.{dec_le}
use native.Mathlib.Omega.{arith}
use lib.IntN.{ℤ, pos, negsuc, nat_abs}
use lib.ListN.{replicate}
use lib.Signed.{lt_z}
use borrow.Author.Tests.{lt-ltb, le-ltb, le-leb, lt-leb}
use Rattle.output.specs.Logic.{byte}
use Rattle.output.specs.Wrote.{Wrote, le_bytes}
use Rattle.output.proofs.Laws.{wrote_then}
use Rattle.text_rules.specs.Digits.{pad, count, digits}
use Rattle.text_rules.proofs.DigitLaws.{count_most, count_enough, count_le, pow_pos10, digits-take-pad, digits-drop-pad, length_digits}
use Rattle.text_rules.proofs.DigitCode.{count-is}
use Rattle.numbers.specs.Decimal.{int_text, pointed, scientific, above, below, form, sign, decimal_text}

-- of k + l digits the first k are a number of k digits
count-first : (k l n : ℕ) → n < 2 ^ 64 → 1 ≤ k → k + l ≡ count 19 n → count 19 (n / 10 ^ l) ≡ k
count-first zero l n h p e = let bad : ⊥ = omega arith in absurd bad
count-first (suc k) zero n h p e = ap (count 19) (div-one n) ∙ sym e ∙ add-zero (suc k)
count-first (suc k) (suc l) n h p e =
    let d = 10 ^ suc l in
    let q : 0 < d = pow_pos10 (suc l) in
    let c : count 19 n ≡ suc k + suc l = sym e in
    let top : n < 10 ^ (suc k + suc l) = rw c at (count_enough 19 n (omega arith)) in
    let lo : 10 ^ k ≤ n / d = (le-div_iff_mul-le q).1 (rw (sym (pow-add 10 k (suc l))) low) in
    let hi : n / d < 10 ^ suc k = (div-lt_iff_lt-mul q).1 (rw (sym (pow-add 10 (suc k) (suc l))) top) in
    count-is k (n / d) (omega (arith, count_le n h)) lo hi
  where
    low : 10 ^ (k + suc l) ≤ n
    low = go (dec_le (10 ^ (k + suc l)) n)
      where
        go : Dec (10 ^ (k + suc l) ≤ n) → 10 ^ (k + suc l) ≤ n
        go (yes g) = g
        go (no g) =
            let i : k + suc l ≡ suc (k + l) = add-suc k l in
            let u : n < 10 ^ (k + suc l) = omega arith in
            let bad : ⊥ = omega (arith, count_most 19 (k + l) n (rw i at u)) in absurd bad

digits-first : (k l n : ℕ) → n < 2 ^ 64 → 1 ≤ k → k + l ≡ count 19 n → digits (n / 10 ^ l) ≡ pad k (n / 10 ^ l)
unfolding digits
digits-first k l n h p e = rw (count-first k l n h p e)

-- a point after k digits, k and l together: the number that the first are, and l digits more
pub pointed_parts : (k l n : ℕ) → n < 2 ^ 64 → 1 ≤ k → k + l ≡ count 19 n → digits (n / 10 ^ l) ++ (byte "." ∷ pad l n) ≡ pointed (digits n) k
unfolding pointed
pointed_parts k l n h p e = rw (digits-take-pad k l n e, digits-drop-pad k l n e, digits-first k l n h p e)

-- `0.` and zeros, as the bytes of a word
pub small-start : (z : ℕ) → z ≤ 5 → le_bytes (2 + z) 0x3030303030302E30 ≡ byte "0" ∷ byte "." ∷ replicate z (byte "0")
unfolding le_bytes
small-start zero h = refl
small-start (suc zero) h = refl
small-start (suc (suc zero)) h = refl
small-start (suc (suc (suc zero))) h = refl
small-start (suc (suc (suc (suc zero)))) h = refl
small-start (suc (suc (suc (suc (suc zero))))) h = refl
small-start (suc (suc (suc (suc (suc (suc z)))))) h = let bad : ⊥ = omega arith in absurd bad

-- ---- the six forms, by the tests of the code

module _ (ds : List ℕ) (w : ℕ) where
  pub form_long : (e : ℕ) → e ≡ 0 → 6 < w → above ds w e ≡ scientific ds (pos (w - 1))
  unfolding above
  form_long e h l = rw (h, lt-ltb 6 w l)

  pub form-point : (e : ℕ) → e ≡ 0 → w ≤ 6 → above ds w e ≡ ds ++ (byte "." ∷ [])
  unfolding above
  form-point e h l = rw (h, le-ltb 6 w l)

  pub form-above : (e : ℕ) → (e ≡ 0 → ⊥) → above ds w e ≡ ds ++ (byte "d" ∷ digits e)
  unfolding above int_text
  form-above zero h = absurd (h refl)
  form-above (suc e) h = refl

  pub form-inside : (k : ℕ) → k < w → below ds w k ≡ pointed ds (w - k)
  unfolding below
  form-inside k h = rw (lt-ltb k w h)

  pub form-zeros : (k : ℕ) → w ≤ k → k ≤ w + 5 → below ds w k ≡ byte "0" ∷ byte "." ∷ (replicate (k - w) (byte "0") ++ ds)
  unfolding below
  form-zeros k h l = rw (le-ltb k w h, le-leb k (w + 5) l)

  pub form_small : (k : ℕ) → w ≤ k → w + 5 < k → below ds w k ≡ scientific ds (negsuc (k - w))
  unfolding below
  form_small k h l = rw (le-ltb k w h, lt-leb k (w + 5) l)

-- ---- the whole text, by the sign of the exponent; w is the number of digits as the code counts it

pub text_below : (neg : Bool) (m w k : ℕ) → w ≡ count 19 m → decimal_text neg m (negsuc k) ≡ sign neg ++ below (digits m) w (suc k)
unfolding decimal_text form
text_below neg m w k h = rw (length_digits m, h)

pub text_above : (neg : Bool) (m w k : ℕ) → w ≡ count 19 m → decimal_text neg m (pos k) ≡ sign neg ++ above (digits m) w k
unfolding decimal_text form
text_above neg m w k h = rw (length_digits m, h)

-- ---- the sign

-- a text behind a minus, or behind nothing
pub signed : (negative : Bool) → {a b c : List ℕ} {p q r : ℕ} {t : List ℕ} → (negative ≡ true → Wrote a b p q (sign true)) → (negative ≡ false → (q ≡ p) × (b ≡ a))
    → Wrote b c q r t → Wrote a c p r (sign negative ++ t)
unfolding sign
signed true m n w = wrote_then (m refl) w
signed false {a = a} {b = b} {c = c} {p = p} {q = q} {r = r} {t = t} m n w = let e = n refl in rw (sym e.0, sym e.1) w

-- an int by its sign and its distance from zero
pub text_int : (n : ℤ) → int_text n ≡ sign (lt_z n (pos 0)) ++ digits (nat_abs n)
unfolding int_text sign
text_int (pos n) = rw (le-ltb n 0 (omega arith))
text_int (negsuc n) = refl
