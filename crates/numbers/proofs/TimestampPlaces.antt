-- The rules of timestamps at a place of a text. Assumes nothing.
use mathlib.Core.Path.{◌≡◌, refl, sym, ap}
use mathlib.Core.Bool.{Bool, true, false, ◌&&◌}
use mathlib.Core.List.{List, [], ◌∷◌, ◌++◌}
use mathlib.Core.Option.{Option, none, some}
use Prim.Native.Nat.{ℕ, zero, suc, ◌+◌, ◌-◌, ◌*◌, ◌^◌, ◌≤◌, ◌<◌}
use native.Mathlib.Nat.{pow-succ', mul_assoc, mul-le-mul_right, pow-le-pow_right}
use native.Mathlib.Decide.{dec_le}
use native.Mathlib.Omega.{arith}
use lib.Dec.{leb, lit<}
use lib.ListN.{length, drop, get_or}
use borrow.Author.Tests.{leb-true}
use Rattle.output.specs.Logic.{if, then, on}
use Rattle.text_rules.specs.Digits.{is_digit, run, number}
use Rattle.text_rules.proofs.Places.{byte_at}
use Rattle.text_rules.proofs.DigitLaws.{Digits, digits-run, digit_range}
use Rattle.numbers.specs.TimestampRead.{joined, starts_digit, clock, minutes}

-- ---- exactly w digits

pub joined-stop : (t : List ℕ) (a k : ℕ) → starts_digit t ≡ false → joined a (suc k) t ≡ none
unfolding joined starts_digit
joined-stop [] a k h = refl
joined-stop (c ∷ t) a k h = rw h

pub digit_here : (t : List ℕ) (i : ℕ) → starts_digit (drop i t) ≡ true → (i < length t) × (is_digit (get_or t i 0) ≡ true)
unfolding starts_digit
digit_here [] zero h = let bad : ⊥ = cc in absurd bad
digit_here [] (suc i) h = let bad : ⊥ = cc in absurd bad
digit_here (c ∷ t) zero h = (omega arith, h)
digit_here (c ∷ t) (suc i) h = let r = digit_here t i h in (omega (arith, r.0), r.1)

pub joined-turn : (t : List ℕ) (i a k : ℕ) → i < length t → is_digit (get_or t i 0) ≡ true
    → joined a (suc k) (drop i t) ≡ joined (a * 10 + (get_or t i 0 - 48)) k (drop (i + 1) t)
unfolding joined
joined-turn t i a k l h = rw (byte_at t i l, h)

first : {a n : ℕ} {t r : List ℕ} → ◌≡◌ {A = Option (ℕ × List ℕ)} (some (a, t)) (some (n, r)) → a ≡ n
first {a} {n} {t} {r} h = ap (λ (o : Option (ℕ × List ℕ)). on o (λ v. v.0) a) h

-- w digits are below ten to w
pub joined_bound : (a w : ℕ) (t : List ℕ) (n : ℕ) (r : List ℕ) → joined a w t ≡ some (n, r) → n < (a + 1) * 10 ^ w
unfolding joined
joined_bound a zero t n r h = let e : a ≡ n = first h in omega arith
joined_bound a (suc w) [] n r h = let z : ◌≡◌ {A = ℕ} 0 1 = cc in let bad : ⊥ = omega arith in absurd bad
joined_bound a (suc w) (c ∷ t) n r h = go (is_digit c) refl h (joined_bound (a * 10 + (c - 48)) w t n r)
  where
    go : (b : Bool) → is_digit c ≡ b → if b (joined (a * 10 + (c - 48)) w t) none ≡ some (n, r)
        → (joined (a * 10 + (c - 48)) w t ≡ some (n, r) → n < (a * 10 + (c - 48) + 1) * 10 ^ w) → n < (a + 1) * 10 ^ suc w
    go false e g ih = let z : ◌≡◌ {A = ℕ} 0 1 = cc in let bad : ⊥ = omega arith in absurd bad
    go true e g ih =
        let p = 10 ^ w in
        let d = digit_range c e in
        let i = ih g in
        let l : (a * 10 + (c - 48) + 1) * p ≤ (a + 1) * 10 * p = mul-le-mul_right p (omega arith) in
        rw (pow-succ' 10 w, sym (mul_assoc (a + 1) 10 p)) (omega arith)

-- ---- the minutes of an offset

pub minutes_bound : (t : List ℕ) (n : ℕ) (r : List ℕ) → minutes t ≡ some (n, r) → n < 1440
unfolding minutes
minutes_bound t n r h = go (clock t) h
  where
    pick : (a b : Bool) (h m : ℕ) (s : List ℕ) → leb h 23 ≡ a → leb m 59 ≡ b → if {A = Option (ℕ × List ℕ)} (a && b) (some (h * 60 + m, s)) none ≡ some (n, r) → n < 1440
    pick true true h m s e f g = let x = leb-true h 23 e in let y = leb-true m 59 f in let z : h * 60 + m ≡ n = first g in omega arith
    pick true false h m s e f g = let z : ◌≡◌ {A = ℕ} 0 1 = cc in let bad : ⊥ = omega arith in absurd bad
    pick false b h m s e f g = let z : ◌≡◌ {A = ℕ} 0 1 = cc in let bad : ⊥ = omega arith in absurd bad

    go : (o : Option ((ℕ × ℕ) × List ℕ)) → then o (λ c. if {A = Option (ℕ × List ℕ)} (leb c.0.0 23 && leb c.0.1 59) (some (c.0.0 * 60 + c.0.1, c.1)) none) ≡ some (n, r) → n < 1440
    go none g = let z : ◌≡◌ {A = ℕ} 0 1 = cc in let bad : ⊥ = omega arith in absurd bad
    go (some v) g = pick (leb v.0.0 23) (leb v.0.1 59) v.0.0 v.0.1 v.1 refl refl g

-- ---- the digits of a fraction

pub joined-digits : (a : ℕ) (s r : List ℕ) → Digits s → joined a (length s) (s ++ r) ≡ some (number a s, r)
unfolding joined number
joined-digits a [] r h = refl
joined-digits a (c ∷ s) r h = rw h.0 (joined-digits (a * 10 + (c - 48)) s r h.1)

-- nine digits are below ten to nine
pub run_nine : (t : List ℕ) → length (run t) ≤ 9 → number 0 (run t) < 10 ^ 9
run_nine t h =
    let b = joined_bound 0 (length (run t)) (run t ++ []) _ _ (joined-digits 0 (run t) [] (digits-run t)) in
    let p : 10 ^ length (run t) ≤ 10 ^ 9 = pow-le-pow_right (lit< tt) h in
    omega arith

-- what does not fit has more digits
pub run_long : (t : List ℕ) → 2 ^ 64 ≤ number 0 (run t) → 9 < length (run t)
run_long t h = go (dec_le (length (run t)) 9)
  where
    go : Dec (length (run t) ≤ 9) → 9 < length (run t)
    go (yes l) = let bad : ⊥ = omega (arith, run_nine t l) in absurd bad
    go (no l) = omega arith

pub taken_off : (a l e : ℕ) → a + l ≡ e → l ≡ e - a
taken_off a l e h = omega arith
