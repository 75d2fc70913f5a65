-- What is written reads back, whatever stands behind it that ends a token. Assumes nothing.
use mathlib.Core.Path.{◌≡◌, refl, ap, subst, ◌∙◌}
use mathlib.Core.Bool.{true}
use mathlib.Core.List.{List, [], ◌∷◌, ◌++◌, append_assoc}
use mathlib.Core.Option.{some}
use Prim.Native.Nat.{ℕ, zero, suc, ◌+◌, ◌-◌, ◌*◌, ◌%◌, ◌^◌, ◌≤◌, ◌<◌}
use native.Mathlib.Omega.{arith}
use lib.ListN.{length}
use borrow.Author.Tests.{le-leb}
use Rattle.output.specs.Logic.{byte}
use Rattle.text_rules.specs.Digits.{digits, pad, count, is_digit, number}
use Rattle.text_rules.specs.Texts.{starts, ended}
use Rattle.text_rules.proofs.DigitLaws.{Digits, NoDigit, run-digits, past_digits, number_digits, digits-digits, digits-some, digits_most, whole-digits}
use Rattle.numbers.proofs.DecimalBack.{ended_no_digit}
use Rattle.floats.specs.Whole.{most_whole, point, powered, whole_text, scaled, behind_e, behind_all, behind_first, whole_number}
use Rattle.floats.proofs.WholeLaws.{text_some, scaled-some}
use Rattle.floats.proofs.WholeDigits.{Leads, factors, factor_below, leads-digits, length_shift, over_zero, first-joined, significant-digits, significant-shift}

-- ---- the text of a number over 0

-- of a number without trailing zeros, and z of them
pub text_of : (m z : ℕ) → 0 < m % 10 → m * 10 ^ z < 2 ^ 64 → whole_text (m * 10 ^ z) ≡ point (digits m) ++ (byte "e" ∷ digits (length (digits m) + z - 1))
unfolding powered
text_of m z h b =
    let p : 0 < m = omega arith in
    text_some (m * 10 ^ z) (omega (arith, factor_below m z)) ∙ rw (significant-shift m z p b, significant-digits m h, length_shift m z p b)

-- ---- reading back

exponent_back : (m f e : ℕ) (r : List ℕ) → e < 2 ^ 64 → NoDigit r → behind_all m f (byte "e" ∷ (digits e ++ r)) ≡ scaled m f e r
unfolding behind_all behind_e starts
exponent_back m f e r h n =
    rw (run-digits (digits e) r (digits-digits e) n, past_digits (digits e) r (digits-digits e) n, whole-digits e h, number_digits e h)

-- the digits s, with a point if there are two or more
point_back : (s t : List ℕ) → Digits s → Leads s → whole_number (point s ++ (byte "e" ∷ t)) ≡ behind_all (number 0 s) (length s - 1) (byte "e" ∷ t)
unfolding whole_number behind_first point starts number is_digit
point_back [] t d l = absurd l
point_back (c ∷ []) t d l =
    rw d.0 (ap (λ (k : ℕ). behind_all k 0 (byte "e" ∷ t)) (first-joined c))
point_back (c ∷ x ∷ s) t d l =
    let n : length (x ∷ s) ≡ suc (length (x ∷ s)) - 1 = omega arith in
    rw (
      d.0,
      le-leb 1 (c - 48) (over_zero c d.0 l),
      run-digits (x ∷ s) (byte "e" ∷ t) d.1 refl,
      past_digits (x ∷ s) (byte "e" ∷ t) d.1 refl,
      le-leb 1 (length (x ∷ s)) (omega arith),
    )
    (ap (λ (k : ℕ). behind_all (number k (x ∷ s)) (length (x ∷ s)) (byte "e" ∷ t)) (first-joined c) ∙ ap (λ (k : ℕ). behind_all (number 0 (c ∷ x ∷ s)) k (byte "e" ∷ t)) n)

scaled_back : (m f z : ℕ) (r : List ℕ) → 0 < m % 10 → f + z ≤ 15 → m * 10 ^ z ≤ most_whole → scaled m f (f + z) r ≡ some (m * 10 ^ z, r)
scaled_back m f z r h l b =
    let k : f + z - f ≡ z = omega arith in
    rw k at (scaled-some m f (f + z) r h (omega arith) l (rw k b))

back_of : (m z : ℕ) (r : List ℕ) → 0 < m % 10 → m * 10 ^ z ≤ most_whole → NoDigit r → whole_number (whole_text (m * 10 ^ z) ++ r) ≡ some (m * 10 ^ z, r)
back_of m z r h b n =
    let p : 0 < m = omega arith in
    let h64 : m < 2 ^ 64 = omega (arith, factor_below m z) in
    let s = digits-some m in
    let x : length (digits m) + z ≤ 16 = omega (arith, length_shift m z p (omega arith), digits_most 15 (m * 10 ^ z) (omega arith)) in
    let e : length (digits m) + z - 1 ≡ length (digits m) - 1 + z = omega arith in
    rw (text_of m z h (omega arith), append_assoc, e)
    (point_back (digits m) (digits (length (digits m) - 1 + z) ++ r) (digits-digits m) (leads-digits m p h64)
    ∙ exponent_back (number 0 (digits m)) (length (digits m) - 1) (length (digits m) - 1 + z) r (omega arith) n
    ∙ rw (number_digits m h64) (scaled_back m (length (digits m) - 1) z r h (omega arith) b))

back_zero : (r : List ℕ) → NoDigit r → whole_number (whole_text 0 ++ r) ≡ some (0, r)
unfolding whole_text whole_number behind_first starts is_digit scaled digits pad count
back_zero r n = exponent_back 0 0 0 r (omega arith) n

-- every whole number up to the most
pub whole_back : (n : ℕ) (r : List ℕ) → n ≤ most_whole → ended r ≡ true → whole_number (whole_text n ++ r) ≡ some (n, r)
whole_back zero r h e = back_zero r (ended_no_digit r e)
whole_back (suc n) r h e =
    let f = factors 16 (suc n) (omega arith) (omega arith) in
    subst (λ (k : ℕ). whole_number (whole_text k ++ r) ≡ some (k, r)) f.is (back_of f.base f.zeros r f.last (omega (arith, f.is)) (ended_no_digit r e))
