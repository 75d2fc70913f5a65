-- The rules of numbers take clean bytes alone: ints, decimals and timestamps. Assumes nothing.
use Prim.Native.Nat.{ℕ, zero, suc, ◌+◌, ◌-◌, ◌*◌, ◌^◌}
use lib.IntN.{ℤ, pos}
use mathlib.Core.Path.{refl}
use mathlib.Core.Bool.{Bool, true, false, ◌&&◌}
use mathlib.Core.List.{List, [], ◌∷◌}
use lib.Dec.{eqb, leb, ltb}
use lib.ListN.{length, drop}
use Rattle.output.specs.Logic.{byte}
use Rattle.text_rules.specs.Digits.{is_digit, run, behind_digits, number, whole}
use Rattle.floats.specs.Float.{float}
use Rattle.numbers.specs.Numeral.{numeral, with_sign, in_i64, ranged_int, shifted, ranged_decimal, power_of, behind_d, behind_point, behind_whole, unsigned}
use Rattle.numbers.specs.Timestamp.{well_formed}
use Rattle.numbers.specs.TimestampRead.{joined, fixed, starts_digit, clock, checked, minutes, offset_of, fraction_of, second_of, time_of, day_of, behind_month, behind_year, timestamp}
use Rattle.numbers.specs.declared.timestamp.Timestamp.{Timestamp}
use Rattle.reader.specs.Grammar.{numbers}
use Rattle.converter.proofs.Bytes.{kept}
use Rattle.converter.proofs.Digits.{decimals}
use Rattle.converter.proofs.CleanRules.{unread, passed, CleanRead, clean-behind, clean_if, clean_or, clean_then, clean-taken, clean_found, clean_class, clean-starts, digits-clean}
use Rattle.converter.proofs.CleanFloats.{float-clean}

-- ---- ints and decimals

int_clean : (neg : Bool) (m : ℕ) (t : List ℕ) → CleanRead t (ranged_int neg m t)
unfolding ranged_int
int_clean neg m t = clean_if (neg && eqb m 0) unread (clean_then (in_i64 (with_sign neg m)) _ (clean_found _) (λ z. passed (λ e. e)))

decimal_clean : (neg : Bool) (m n : ℕ) (e : ℤ) (t : List ℕ) → CleanRead t (ranged_decimal neg m n e t)
unfolding ranged_decimal
decimal_clean neg m n e t = clean_if (ltb m (2 ^ 64)) (clean_then (shifted n e) _ (clean_found _) (λ x. passed (λ e. e))) unread

-- an exponent's digits, and the text behind them
power_clean : (neg : Bool) (m n : ℕ) (minus : Bool) (t : List ℕ) → CleanRead t (power_of neg m n minus (run t) (behind_digits t))
unfolding power_of
power_clean neg m n minus t = clean_if (leb 1 (length (run t)) && leb (length (run t)) 10) (clean-behind (digits-clean t) (decimal_clean neg m n _ (behind_digits t))) unread

behind-d-clean : (neg : Bool) (m n : ℕ) (t : List ℕ) → CleanRead t (behind_d neg m n t)
unfolding behind_d
behind-d-clean neg m n t =
    clean-starts (byte "-") refl t (power_clean neg m n true (drop 1 t))
    (clean-starts (byte "+") refl t (power_clean neg m n false (drop 1 t)) (power_clean neg m n false t))

point-clean : (neg : Bool) (m n : ℕ) (t : List ℕ) → CleanRead t (behind_point neg m n t)
unfolding behind_point
point-clean neg m n t = clean-starts (byte "d") refl t (behind-d-clean neg m n (drop 1 t)) (decimal_clean neg m n (pos 0) t)

whole-clean : (neg : Bool) (m : ℕ) (t : List ℕ) → CleanRead t (behind_whole neg m t)
unfolding behind_whole
whole-clean neg m t =
    clean-starts (byte ".") refl t (clean-behind (digits-clean (drop 1 t)) (point-clean neg _ _ (behind_digits (drop 1 t))))
    (clean-starts (byte "d") refl t (behind-d-clean neg m 0 (drop 1 t)) (int_clean neg m t))

unsigned-clean : (neg : Bool) (t : List ℕ) → CleanRead t (unsigned neg t)
unfolding unsigned
unsigned-clean neg t = clean_if (whole (run t)) (clean-behind (digits-clean t) (whole-clean neg (number 0 (run t)) (behind_digits t))) unread

numeral-clean : (t : List ℕ) → CleanRead t (numeral t)
unfolding numeral
numeral-clean t = clean-starts (byte "-") refl t (unsigned-clean true (drop 1 t)) (unsigned-clean false t)

-- ---- timestamps

joined-clean : (a w : ℕ) (t : List ℕ) → CleanRead t (joined a w t)
unfolding joined
joined-clean a zero t = passed (λ e. e)
joined-clean a (suc w) [] = unread
joined-clean a (suc w) (c ∷ t) = clean_class (is_digit c) (kept decimals c) (joined-clean (a * 10 + (c - byte "0")) w t) unread

clock-clean : (t : List ℕ) → CleanRead t (clock t)
unfolding clock
clock-clean t =
    clean_then (fixed 2 t) _ (joined-clean 0 2 t) (λ h.
    clean-starts (byte ":") refl h.1 (clean-taken _ (fixed 2 (drop 1 h.1)) (joined-clean 0 2 (drop 1 h.1))) unread)

checked-clean : (x : Timestamp) (t : List ℕ) → CleanRead t (checked x t)
unfolding checked
checked-clean x t = clean_if (well_formed x) (passed (λ e. e)) unread

minutes-clean : (t : List ℕ) → CleanRead t (minutes t)
unfolding minutes
minutes-clean t = clean_then (clock t) _ (clock-clean t) (λ c. clean_if (leb c.0.0 23 && leb c.0.1 59) (passed (λ e. e)) unread)

offset_clean : (x : Timestamp) (t : List ℕ) → CleanRead t (offset_of x t)
unfolding offset_of
offset_clean x t =
    let m = minutes-clean (drop 1 t) in
    clean-starts (byte "Z") refl t (checked-clean _ (drop 1 t))
    (clean-starts (byte "+") refl t (clean_then (minutes (drop 1 t)) _ m (λ v. checked-clean _ v.1))
    (clean-starts (byte "-") refl t (clean_then (minutes (drop 1 t)) _ m (λ v. checked-clean _ v.1)) unread))

fraction-clean : (x : Timestamp) (h m s : ℕ) (ds t : List ℕ) → CleanRead t (fraction_of x h m s ds t)
unfolding fraction_of
fraction-clean x h m s ds t = clean_if (leb 1 (length ds) && leb (length ds) 9) (offset_clean _ t) unread

second-clean : (x : Timestamp) (h m : ℕ) (t : List ℕ) → CleanRead t (second_of x h m t)
unfolding second_of
second-clean x h m t =
    clean_then (fixed 2 t) _ (joined-clean 0 2 t) (λ s.
    let u = drop 1 s.1 in
    clean-starts (byte ".") refl s.1 (clean-behind (digits-clean u) (fraction-clean x h m s.0 (run u) (behind_digits u))) (offset_clean _ s.1))

time_clean : (x : Timestamp) (t : List ℕ) → CleanRead t (time_of x t)
unfolding time_of
time_clean x t = clean_then (clock t) _ (clock-clean t) (λ c. clean-starts (byte ":") refl c.1 (second-clean x c.0.0 c.0.1 (drop 1 c.1)) (offset_clean _ c.1))

day-clean : (x : Timestamp) (t : List ℕ) → CleanRead t (day_of x t)
unfolding day_of
day-clean x t = clean_if (starts_digit t) (time_clean x t) (checked-clean x t)

month_clean : (year month : ℕ) (t : List ℕ) → CleanRead t (behind_month year month t)
unfolding behind_month
month_clean year month t = clean_then (fixed 2 t) _ (joined-clean 0 2 t) (λ d. clean-starts (byte "T") refl d.1 (day-clean _ (drop 1 d.1)) unread)

year_clean : (year : ℕ) (t : List ℕ) → CleanRead t (behind_year year t)
unfolding behind_year
year_clean year t =
    clean_then (fixed 2 t) _ (joined-clean 0 2 t) (λ m.
    clean-starts (byte "T") refl m.1 (checked-clean _ (drop 1 m.1))
    (clean-starts (byte "-") refl m.1 (month_clean year m.0 (drop 1 m.1)) unread))

timestamp-clean : (t : List ℕ) → CleanRead t (timestamp t)
unfolding timestamp
timestamp-clean t =
    clean_then (fixed 4 t) _ (joined-clean 0 4 t) (λ y.
    clean-starts (byte "T") refl y.1 (checked-clean _ (drop 1 y.1))
    (clean-starts (byte "-") refl y.1 (year_clean y.0 (drop 1 y.1)) unread))

-- ---- a number as a value

pub numbers-clean : (t : List ℕ) → CleanRead t (numbers t)
unfolding numbers
numbers-clean t =
    clean_or _ _ (clean-taken _ (float t) (float-clean t))
    (clean_or _ _ (clean-taken _ (timestamp t) (timestamp-clean t)) (clean-taken _ (numeral t) (numeral-clean t)))
