-- The lengths of ints, decimals and timestamps, and how long they are at most. Assumes nothing.
use mathlib.Core.Path.{◌≡◌, refl, ap, ◌∙◌}
use mathlib.Core.Bool.{Bool, true, false}
use mathlib.Core.List.{[], ◌∷◌, ◌++◌}
use Prim.Native.Nat.{ℕ, zero, suc, ◌+◌, ◌-◌, ◌*◌, ◌/◌, ◌%◌, ◌≤◌}
use native.Mathlib.Decide.{dec_le}
use native.Mathlib.Omega.{arith}
use lib.Dec.{eqb, ltb}
use lib.IntN.{ℤ, pos, negsuc}
use lib.ListN.{length, replicate, length-append, length-replicate}
use borrow.Author.Tests.{ne_eqb}
use Rattle.output.specs.Logic.{if, byte, ascii}
use Rattle.text_rules.specs.Digits.{pad, count, digits}
use Rattle.text_rules.specs.Text.{symbol_id_text}
use Rattle.text_rules.proofs.DigitLaws.{length-pad, length_digits, count-some}
use Rattle.numbers.specs.Decimal.{int_text, pointed, scientific, above, below, sign, decimal_text}
use Rattle.numbers.specs.declared.timestamp.Timestamp.{Timestamp}
use Rattle.numbers.specs.Timestamp.{unknown, well_formed, year_and_month, date, hour_and_minute, date_hour_and_minute, fractional_seconds, offset_text, timestamp_text}
use Rattle.numbers.proofs.Calendar.{fields, small}
use Rattle.numbers.proofs.DecimalLaws.{form-inside, form-zeros, form_small, text_below, text_above}
use Rattle.numbers.proofs.Pointed.{length-pointed}

-- ---- digits and ints

count_limit : (k n : ℕ) → count k n ≤ suc k
unfolding count
count_limit zero n = omega arith
count_limit (suc k) n = go (ltb n 10) (count_limit k (n / 10))
  where
    go : (t : Bool) → count k (n / 10) ≤ suc k → if t 1 (suc (count k (n / 10))) ≤ suc (suc k)
    go true h = omega arith
    go false h = omega arith

digits_limit : (n : ℕ) → length (digits n) ≤ 20
digits_limit n = omega (arith, length_digits n, count_limit 19 n)

pub int_most : (z : ℤ) → length (int_text z) ≤ 21
unfolding int_text
int_most (pos n) = omega (arith, digits_limit n)
int_most (negsuc n) = omega (arith, digits_limit (suc n))

pub id_most : (n : ℕ) → length (symbol_id_text n) ≤ 21
unfolding symbol_id_text
id_most n = omega (arith, digits_limit n)

-- ---- decimals

pub length-scientific : (n w : ℕ) (e : ℤ) → w ≡ count 19 n → length (scientific (digits n) e) ≡ w + 2 + length (int_text e)
unfolding scientific
length-scientific n w e h = length-append (pointed (digits n) 1) (byte "d" ∷ int_text e) ∙ omega (arith, length-pointed n w 1 h (omega (arith, count-some 19 n)))

pub length-zeros : (n w k : ℕ) → w ≡ count 19 n → w ≤ k → length (byte "0" ∷ byte "." ∷ (replicate (k - w) (byte "0") ++ digits n)) ≡ 2 + k
length-zeros n w k h l =
    omega (arith, length-append (replicate (k - w) (byte "0")) (digits n), length-replicate (k - w) (byte "0"), length_digits n)

module _ (n w : ℕ) (h : w ≡ count 19 n) where
  scientific_most : (e : ℤ) → length (scientific (digits n) e) ≤ 43
  scientific_most e = omega (arith, length-scientific n w e h, int_most e, count_limit 19 n)

  above_most : (e : ℕ) → length (above (digits n) w e) ≤ 43
  unfolding above int_text
  above_most zero = go (ltb 6 w)
    where
      go : (t : Bool) → length (if t (scientific (digits n) (pos (w - 1))) (digits n ++ (byte "." ∷ []))) ≤ 43
      go true = scientific_most (pos (w - 1))
      go false = omega (arith, length-append (digits n) (byte "." ∷ []), digits_limit n)
  above_most (suc e) = omega (arith, length-append (digits n) (byte "d" ∷ digits (suc e)), digits_limit n, digits_limit (suc e))

  below_most : (k : ℕ) → length (below (digits n) w k) ≤ 43
  below_most k = go (dec_le w k) (dec_le k (w + 5))
    where
      go : Dec (w ≤ k) → Dec (k ≤ w + 5) → length (below (digits n) w k) ≤ 43
      go (no p) q = rw (form-inside (digits n) w k (omega arith)) (omega (arith, length-pointed n w (w - k) h (omega arith), count_limit 19 n))
      go (yes p) (yes q) = rw (form-zeros (digits n) w k p q) (omega (arith, length-zeros n w k h p, count_limit 19 n))
      go (yes p) (no q) = rw (form_small (digits n) w k p (omega arith)) (scientific_most (negsuc (k - w)))

sign_most : (neg : Bool) → length (sign neg) ≤ 1
unfolding sign
sign_most true = omega arith
sign_most false = omega arith

pub decimal_most : (neg : Bool) (m : ℕ) (e : ℤ) → length (decimal_text neg m e) ≤ 44
decimal_most neg m (pos k) =
    rw (text_above neg m (count 19 m) k refl)
    (omega (arith, length-append (sign neg) (above (digits m) (count 19 m) k), sign_most neg, above_most m (count 19 m) refl k))
decimal_most neg m (negsuc k) =
    rw (text_below neg m (count 19 m) k refl)
    (omega (arith, length-append (sign neg) (below (digits m) (count 19 m) (suc k)), sign_most neg, below_most m (count 19 m) refl (suc k)))

-- ---- timestamps, whose parts have so many digits each

length_offset : (z : ℤ) → length (offset_text z) ≡ 6
unfolding offset_text hour_and_minute pad
length_offset (pos m) = go (eqb m unknown)
  where
    go : (b : Bool) → length (if b (ascii "-00:00") (byte "+" ∷ hour_and_minute (m / 60) (m % 60))) ≡ 6
    go true = refl
    go false = refl
length_offset (negsuc m) = refl

length-fraction : (d f : ℕ) → length (fractional_seconds d f) ≡ if (eqb d 0) 0 (suc d)
unfolding fractional_seconds
length-fraction d f = go (eqb d 0)
  where
    go : (b : Bool) → length (if b [] (byte "." ∷ pad d f)) ≡ if b 0 (suc d)
    go true = refl
    go false = ap suc (length-pad d f)

module _ (x : Timestamp) where
  length_year : x.precision ≡ 0 → length (timestamp_text x) ≡ 5
  unfolding timestamp_text pad
  length_year h = rw h

  length_month : x.precision ≡ 1 → length (timestamp_text x) ≡ 8
  unfolding timestamp_text year_and_month pad
  length_month h = rw h

  length-day : x.precision ≡ 2 → length (timestamp_text x) ≡ 11
  unfolding timestamp_text date year_and_month pad
  length-day h = rw h

  pub length-minute : x.precision ≡ 3 → length (timestamp_text x) ≡ 22
  unfolding timestamp_text date_hour_and_minute date year_and_month hour_and_minute pad
  length-minute h = rw h (omega (arith, length_offset x.offset))

  pub length-second : 4 ≤ x.precision → length (timestamp_text x) ≡ 25 + if (eqb x.digits 0) 0 (suc x.digits)
  unfolding timestamp_text date_hour_and_minute date year_and_month hour_and_minute pad
  length-second h =
      rw (ne_eqb x.precision 0 (λ (e : x.precision ≡ 0). omega arith), ne_eqb x.precision 1 (λ (e : x.precision ≡ 1). omega arith), ne_eqb x.precision 2 (λ (e : x.precision ≡ 2). omega arith), ne_eqb x.precision 3 (λ (e : x.precision ≡ 3). omega arith))
      (omega (arith, length_offset x.offset, length-fraction x.digits x.fraction, length-append (fractional_seconds x.digits x.fraction) (offset_text x.offset)))

-- up to a day
pub length_short : (x : Timestamp) → x.precision ≤ 2 → length (timestamp_text x) ≡ 5 + 3 * x.precision
length_short x = go x.precision refl
  where
    go : (p : ℕ) → x.precision ≡ p → p ≤ 2 → length (timestamp_text x) ≡ 5 + 3 * p
    go zero e h = length_year x e
    go (suc zero) e h = length_month x e
    go (suc (suc zero)) e h = length-day x e
    go (suc (suc (suc p))) e h = let bad : ⊥ = omega arith in absurd bad

pub timestamp_most : (x : Timestamp) → well_formed x ≡ true → length (timestamp_text x) ≤ 35
timestamp_most x h = go x.precision refl (small x (fields x h)).digits
  where
    fraction_most : (b : Bool) → if b 0 (suc x.digits) ≤ suc x.digits
    fraction_most true = omega arith
    fraction_most false = omega arith

    go : (p : ℕ) → x.precision ≡ p → x.digits ≤ 9 → length (timestamp_text x) ≤ 35
    go zero e d = omega (arith, length_short x (omega arith))
    go (suc zero) e d = omega (arith, length_short x (omega arith))
    go (suc (suc zero)) e d = omega (arith, length_short x (omega arith))
    go (suc (suc (suc zero))) e d = omega (arith, length-minute x e)
    go (suc (suc (suc (suc p)))) e d = omega (arith, length-second x (omega arith), fraction_most (eqb x.digits 0))
