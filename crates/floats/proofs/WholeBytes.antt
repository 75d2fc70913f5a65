-- How long the text of a whole number is, and which bytes it has: digits, a point, `e`. Assumes nothing.
use mathlib.Core.Bool.{Bool, true, false, ◌&&◌}
use mathlib.Core.List.{List, [], ◌∷◌, ◌++◌, append-nil}
use Prim.Native.Nat.{ℕ, suc, ◌-◌, ◌≤◌}
use native.Mathlib.Omega.{arith}
use lib.Dec.{eqb}
use lib.ListN.{length, length-append}
use Rattle.output.specs.Logic.{if, byte}
use Rattle.text_rules.specs.Digits.{digits}
use Rattle.text_rules.specs.Texts.{empty}
use Rattle.text_rules.proofs.DigitLaws.{Digits, digit_range, digits-digits, digits_most}
use Rattle.floats.specs.Whole.{most_whole, significant, point, powered, whole_text}

-- ---- length

significant_most : (s : List ℕ) → length (significant s) ≤ length s
unfolding significant
significant_most [] = omega arith
significant_most (c ∷ s) = go (eqb c (byte "0") && empty (significant s)) (significant_most s)
  where
    go : (b : Bool) → length (significant s) ≤ length s → length (if b [] (c ∷ significant s)) ≤ suc (length s)
    go true h = omega arith
    go false h = omega arith

point_most : (s : List ℕ) → length (point s) ≤ suc (length s)
unfolding point
point_most [] = omega arith
point_most (c ∷ []) = omega arith
point_most (c ∷ d ∷ s) = omega arith

powered_most : (n : ℕ) → n ≤ most_whole → length (powered (digits n)) ≤ 20
unfolding powered
powered_most n h =
    let d = digits_most 15 n (omega arith) in
    let p = point_most (significant (digits n)) in
    let s = significant_most (digits n) in
    let e = digits_most 1 (length (digits n) - 1) (omega arith) in
    rw (length-append (point (significant (digits n))) (byte "e" ∷ digits (length (digits n) - 1))) (omega arith)

-- 16 digits, a point, `e` and two digits
pub whole-length_most : (n : ℕ) → n ≤ most_whole → length (whole_text n) ≤ 20
unfolding whole_text
whole-length_most n h = go (eqb n 0)
  where
    go : (b : Bool) → length (if b (byte "0" ∷ byte "e" ∷ byte "0" ∷ []) (powered (digits n))) ≤ 20
    go true = omega arith
    go false = powered_most n h

-- ---- bytes

pub digits-significant : (s : List ℕ) → Digits s → Digits (significant s)
unfolding significant
digits-significant [] h = tt
digits-significant (c ∷ s) h = go (eqb c (byte "0") && empty (significant s)) (digits-significant s h.1)
  where
    go : (b : Bool) → Digits (significant s) → Digits (if b [] (c ∷ significant s))
    go true d = tt
    go false d = (h.0, d)

-- What holds of no bytes, and stays true with a digit, a point or `e` before it, holds of the text. So it has no LF.
module _ (P : List ℕ → Type 0) (none : P []) (more : (c : ℕ) (s : List ℕ) → byte "." ≤ c → c ≤ byte "e" → P s → P (c ∷ s)) where
  all_digits : (s t : List ℕ) → Digits s → P t → P (s ++ t)
  all_digits [] t d h = h
  all_digits (c ∷ s) t d h = let g = digit_range c d.0 in more c (s ++ t) (omega arith) (omega arith) (all_digits s t d.1 h)

  all-point : (s t : List ℕ) → Digits s → P t → P (point s ++ t)
  unfolding point
  all-point [] t d h = h
  all-point (c ∷ []) t d h = all_digits (c ∷ []) t d h
  all-point (c ∷ x ∷ s) t d h =
      let g = digit_range c d.0 in
      more c _ (omega arith) (omega arith) (more (byte ".") _ (omega arith) (omega arith) (all_digits (x ∷ s) t d.1 h))

  all-powered : (n : ℕ) → P (powered (digits n))
  unfolding powered
  all-powered n =
      let e = digits (length (digits n) - 1) in
      all-point (significant (digits n)) (byte "e" ∷ e) (digits-significant (digits n) (digits-digits n))
      (more (byte "e") e (omega arith) (omega arith) (rw append-nil at (all_digits e [] (digits-digits (length (digits n) - 1)) none)))

  pub whole-all : (n : ℕ) → P (whole_text n)
  unfolding whole_text
  whole-all n = go (eqb n 0)
    where
      go : (b : Bool) → P (if b (byte "0" ∷ byte "e" ∷ byte "0" ∷ []) (powered (digits n)))
      go true = more (byte "0") _ (omega arith) (omega arith) (more (byte "e") _ (omega arith) (omega arith) (more (byte "0") _ (omega arith) (omega arith) none))
      go false = all-powered n
