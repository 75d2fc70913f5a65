-- A run of digits at a place of a text. Assumes nothing.
use mathlib.Core.Path.{◌≡◌, refl}
use mathlib.Core.Bool.{true, false}
use mathlib.Core.List.{List, ◌∷◌}
use Prim.Native.Nat.{ℕ, ◌+◌, ◌-◌, ◌*◌, ◌^◌, ◌≤◌, ◌<◌}
use native.Mathlib.Omega.{arith}
use lib.ListN.{length, drop, get_or}
use Rattle.text_rules.specs.Digits.{is_digit, number, run, behind_digits}
use Rattle.text_rules.specs.DigitSteps.{RunJoined}
use Rattle.std.specs.Prelude.{Option, Some, None}
use Rattle.text_rules.proofs.Places.{byte_at, end-at}
use Rattle.text_rules.proofs.DigitLaws.{NoDigit, run_none, past_none, number_more}

pub ran_stop : (t : List ℕ) (i a : ℕ) → NoDigit (drop i t) → i ≤ length t → a < 2 ^ 64 → RunJoined t i a (Some (a, i))
unfolding number
ran_stop t i a h l b = rw (run_none (drop i t) h) (refl, past_none (drop i t) h, omega arith, l, b)

pub no_digit_lem : (t : List ℕ) (i : ℕ) → i < length t → is_digit (get_or t i 0) ≡ false → NoDigit (drop i t)
no_digit_lem t i l h = rw (byte_at t i l) h

pub no_byte : (t : List ℕ) (i : ℕ) → i ≡ length t → NoDigit (drop i t)
no_byte t i l = rw (end-at t i l) tt

run_more : (t : List ℕ) (i : ℕ) → i < length t → is_digit (get_or t i 0) ≡ true → run (drop i t) ≡ get_or t i 0 ∷ run (drop (i + 1) t)
unfolding run
run_more t i l h = rw (byte_at t i l, h)

past_more : (t : List ℕ) (i : ℕ) → i < length t → is_digit (get_or t i 0) ≡ true → behind_digits (drop i t) ≡ behind_digits (drop (i + 1) t)
unfolding behind_digits
past_more t i l h = rw (byte_at t i l, h)

pub ran_more : (t : List ℕ) (i a : ℕ) (r : Option (ℕ × ℕ)) → i < length t → is_digit (get_or t i 0) ≡ true → RunJoined t (i + 1) (a * 10 + (get_or t i 0 - 48)) r → RunJoined t i a r
unfolding number
ran_more t i a (Some (n, end)) l h v = rw (run_more t i l h, past_more t i l h) (v.0, v.1, omega (arith, v.2), v.3, v.4)
ran_more t i a None l h v = rw (run_more t i l h) v

pub ran_over : (t : List ℕ) (i a : ℕ) → i < length t → is_digit (get_or t i 0) ≡ true → 2 ^ 64 ≤ a * 10 + (get_or t i 0 - 48) → RunJoined t i a None
unfolding number
ran_over t i a l h v = rw (run_more t i l h) (omega (arith, number_more (a * 10 + (get_or t i 0 - 48)) (run (drop (i + 1) t))))
