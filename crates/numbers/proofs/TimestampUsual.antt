-- `MM-DDThh:mm:ssZ`, by the rules. Assumes nothing.
use mathlib.Core.Path.{◌≡◌, refl, ap, ◌∙◌}
use mathlib.Core.Bool.{Bool, true, false, ◌||◌}
use mathlib.Core.List.{List, [], ◌∷◌}
use mathlib.Core.Option.{none, some}
use Prim.Native.Nat.{ℕ, ◌+◌, ◌-◌, ◌*◌, ◌≤◌}
use native.Mathlib.Nat.{add_assoc}
use native.Mathlib.Omega.{arith}
use lib.Dec.{eqb}
use lib.IntN.{pos}
use lib.ListN.{length, drop, get_or}
use borrow.Author.Tests.{le-leb}
use Rattle.output.specs.Logic.{if, byte}
use Rattle.text_rules.specs.Digits.{is_digit}
use Rattle.text_rules.specs.Texts.{starts}
use Rattle.text_rules.proofs.Places.{byte_at}
use Rattle.numbers.specs.declared.timestamp.Timestamp.{Timestamp}
use Rattle.numbers.specs.Timestamp.{is_leap, days_in, field_well, date_well, time_well, offset_well, fraction_well, well_formed}
use Rattle.numbers.specs.TimestampRead.{joined, fixed, starts_digit, clock, dated, timed, zoned, checked, offset_of, second_of, time_of, day_of, behind_month, behind_year}
use Rattle.numbers.specs.TimestampSteps.{Marked, Usual}
use Rattle.numbers.proofs.TimestampPlaces.{joined-turn}

-- ---- two digits

pub pair_read : (t : List ℕ) (i : ℕ) → i + 2 ≤ length t → is_digit (get_or t i 0) ≡ true → is_digit (get_or t (i + 1) 0) ≡ true
    → fixed 2 (drop i t) ≡ some ((get_or t i 0 - 48) * 10 + (get_or t (i + 1) 0 - 48), drop (i + 2) t)
unfolding joined
pair_read t i l d e =
    let a = get_or t i 0 - 48 in
    let b = get_or t (i + 1) 0 - 48 in
    let q : (0 * 10 + a) * 10 + b ≡ a * 10 + b = omega arith in
    joined-turn t i 0 1 (omega arith) d
    ∙ joined-turn t (i + 1) (0 * 10 + a) 0 (omega arith) e
    ∙ ap (λ (k : ℕ). some ((0 * 10 + a) * 10 + b, drop k t)) (add_assoc i 1 1)
    ∙ ap (λ (n : ℕ). some (n, drop (i + 2) t)) q

pair_starts : (s : List ℕ) (v : ℕ × List ℕ) → fixed 2 s ≡ some v → starts_digit s ≡ true
unfolding joined starts_digit
pair_starts [] v h = let z : ◌≡◌ {A = ℕ} 0 1 = cc in let bad : ⊥ = omega arith in absurd bad
pair_starts (c ∷ s) v h = go (is_digit c) refl h
  where
    go : (b : Bool) → is_digit c ≡ b → if b (joined (0 * 10 + (c - 48)) 1 s) none ≡ some v → is_digit c ≡ true
    go true e g = e
    go false e g = let z : ◌≡◌ {A = ℕ} 0 1 = cc in let bad : ⊥ = omega arith in absurd bad

-- ---- the rules, where two digits and a mark stand

mark : (t : List ℕ) (i b : ℕ) → i + 3 ≤ length t → get_or t (i + 2) 0 ≡ b → drop (i + 2) t ≡ b ∷ drop (i + 3) t
mark t i b l h = byte_at t (i + 2) (omega arith) ∙ ap (λ (c : ℕ). c ∷ drop (i + 2 + 1) t) h ∙ ap (λ (k : ℕ). b ∷ drop k t) (add_assoc i 2 1)

module _ (t : List ℕ) (i : ℕ) (l : i + 3 ≤ length t) (n : ℕ) (h : fixed 2 (drop i t) ≡ some (n, drop (i + 2) t)) where
  at_month : (y : ℕ) → get_or t (i + 2) 0 ≡ byte "-" → behind_year y (drop i t) ≡ behind_month y n (drop (i + 3) t)
  unfolding behind_year starts
  at_month y b = rw (h, mark t i 45 l b)

  at-day : (y m : ℕ) → get_or t (i + 2) 0 ≡ byte "T" → starts_digit (drop (i + 3) t) ≡ true → behind_month y m (drop i t) ≡ time_of (dated 2 y m n) (drop (i + 3) t)
  unfolding behind_month day_of starts
  at-day y m b s = rw (h, mark t i 84 l b, s)

  at_second : (x : Timestamp) (a m : ℕ) → get_or t (i + 2) 0 ≡ byte "Z" → second_of x a m (drop i t) ≡ checked (zoned (timed 4 x a m n 0 0) (pos 0)) (drop (i + 3) t)
  unfolding second_of offset_of starts
  at_second x a m b = rw (h, mark t i 90 l b)

at_time : (t : List ℕ) (i h m : ℕ) (x : Timestamp) → i + 6 ≤ length t → fixed 2 (drop i t) ≡ some (h, drop (i + 2) t) → get_or t (i + 2) 0 ≡ byte ":"
    → fixed 2 (drop (i + 3) t) ≡ some (m, drop (i + 3 + 2) t) → get_or t (i + 3 + 2) 0 ≡ byte ":" → time_of x (drop i t) ≡ second_of x h m (drop (i + 3 + 3) t)
unfolding time_of clock starts
at_time t i h m x l e b f d = rw (e, mark t i 58 (omega arith) b, f, mark t (i + 3) 58 (omega arith) d)

-- ---- the fields

days_least : (y m : ℕ) → 28 ≤ days_in y m
unfolding days_in
days_least y m = go (eqb m 2) (is_leap y) (eqb m 4 || eqb m 6 || eqb m 9 || eqb m 11)
  where
    go : (a b c : Bool) → 28 ≤ if a (if b 29 28) (if c 30 31)
    go true true c = omega arith
    go true false c = omega arith
    go false b true = omega arith
    go false b false = omega arith

usual_well : {y m d h i s : ℕ} → Usual y m d h i s → well_formed (zoned (timed 4 (dated 2 y m d) h i s 0 0) (pos 0)) ≡ true
unfolding well_formed date_well time_well offset_well fraction_well field_well
usual_well {y} {m} {d} {h} {i} {s} u =
    let e = days_least y m in
    simp (le-leb 1 y u.year.0, le-leb y 9999 u.year.1, le-leb 1 m u.month.0, le-leb m 12 u.month.1, le-leb 1 d u.day.0, le-leb d (days_in y m) (omega (arith, u.day.1)), le-leb 0 h (omega arith), le-leb h 23 u.hour, le-leb 0 i (omega arith), le-leb i 59 u.minute, le-leb 0 s (omega arith), le-leb s 59 u.second)

-- ---- all of it

pub usual_read : (t : List ℕ) (at y m d h i s : ℕ) → at + 15 ≤ length t → Marked t at → Usual y m d h i s
    → fixed 2 (drop at t) ≡ some (m, drop (at + 2) t) → fixed 2 (drop (at + 3) t) ≡ some (d, drop (at + 3 + 2) t) → fixed 2 (drop (at + 6) t) ≡ some (h, drop (at + 6 + 2) t)
    → fixed 2 (drop (at + 9) t) ≡ some (i, drop (at + 9 + 2) t) → fixed 2 (drop (at + 12) t) ≡ some (s, drop (at + 12 + 2) t)
    → behind_year y (drop at t) ≡ some (zoned (timed 4 (dated 2 y m d) h i s 0 0) (pos 0), drop (at + 15) t)
unfolding checked
usual_read t at y m d h i s l k u a b c e f =
    let p6 = add_assoc at 3 3 in
    let p9 = add_assoc at 6 3 in
    let p12 : at + 6 + 3 + 3 ≡ at + 12 = omega arith in
    let v : fixed 2 (drop (at + 6 + 3) t) ≡ some (i, drop (at + 6 + 3 + 2) t) = rw p9 e in
    at_month t at (omega arith) m a y k.day
    ∙ at-day t (at + 3) (omega arith) d b y m (rw (add_assoc at 3 2) k.hour) (rw p6 (pair_starts (drop (at + 6) t) _ c))
    ∙ ap (λ (j : ℕ). time_of (dated 2 y m d) (drop j t)) p6
    ∙ at_time t (at + 6) h i (dated 2 y m d) (omega arith) c (rw (add_assoc at 6 2) k.minute) v (rw (p9, add_assoc at 9 2) k.second)
    ∙ ap (λ (j : ℕ). second_of (dated 2 y m d) h i (drop j t)) p12
    ∙ at_second t (at + 12) (omega arith) s f (dated 2 y m d) h i (rw (add_assoc at 12 2) k.offset)
    ∙ rw (usual_well u, add_assoc at 12 3)
