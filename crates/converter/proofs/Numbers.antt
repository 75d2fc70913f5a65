-- Ints, decimals and timestamps under the conversion. Assumes nothing.
use Prim.Native.Nat.{ℕ, zero, suc, ◌+◌, ◌-◌, ◌*◌, ◌^◌}
use lib.IntN.{ℤ, pos}
use mathlib.Core.Path.{◌≡◌, refl, sym, ◌∙◌}
use mathlib.Core.Bool.{Bool, true, false, ◌&&◌}
use mathlib.Core.List.{List, [], ◌∷◌}
use mathlib.Core.Option.{none, some}
use lib.ListN.{length, drop}
use lib.Dec.{eqb, leb, ltb}
use Rattle.output.specs.Logic.{if, then, byte}
use Rattle.text_rules.specs.Digits.{is_digit, run, behind_digits, number, whole}
use Rattle.floats.specs.Float.{float}
use Rattle.numbers.specs.Numeral.{Numeral, numeral, with_sign, in_i64, ranged_int, shifted, ranged_decimal, power_of, behind_d, behind_point, behind_whole, unsigned}
use Rattle.numbers.specs.Timestamp.{well_formed}
use Rattle.numbers.specs.TimestampRead.{joined, fixed, starts_digit, clock, dated, zoned, west, checked, minutes, offset_of, fraction_of, second_of, time_of, day_of, behind_month, behind_year, timestamp}
use Rattle.numbers.specs.declared.timestamp.Timestamp.{Timestamp}
use Rattle.reader.specs.Grammar.{taken, numeral_node, numbers, numeric}
use Rattle.converter.specs.Convert.{converted}
use Rattle.converter.proofs.Bytes.{gone_same, Outside}
use Rattle.converter.proofs.Texts.{Seen, found, other, seen, converted-nothing}
use Rattle.converter.proofs.Image.{image, image_then, image_found, image_or, image-taken, choice, starting}
use Rattle.converter.proofs.Floats.{float-converted}
use Rattle.converter.proofs.Digits.{decimals, run-converted, behind-digits-converted}

-- ---- ints and decimals

int_converted : (neg : Bool) (m : ℕ) (r : List ℕ) → ranged_int neg m (converted r) ≡ image (ranged_int neg m r)
unfolding ranged_int
int_converted neg m r = choice image (neg && eqb m 0) refl (image_found Numeral.int (in_i64 (with_sign neg m)) r)

decimal_converted : (neg : Bool) (m n : ℕ) (e : ℤ) (r : List ℕ) → ranged_decimal neg m n e (converted r) ≡ image (ranged_decimal neg m n e r)
unfolding ranged_decimal
decimal_converted neg m n e r = choice image (ltb m (2 ^ 64)) (image_found (λ x. Numeral.decimal neg m x) (shifted n e) r) refl

-- an exponent's digits, and the text behind them
power_converted : (neg : Bool) (m n : ℕ) (minus : Bool) (t : List ℕ) → power_of neg m n minus (run (converted t)) (behind_digits (converted t)) ≡ image (power_of neg m n minus (run t) (behind_digits t))
unfolding power_of
power_converted neg m n minus t = rw (run-converted t, behind-digits-converted t) (choice image (leb 1 (length (run t)) && leb (length (run t)) 10) (decimal_converted neg m n _ (behind_digits t)) refl)

behind-d-converted : (neg : Bool) (m n : ℕ) (t : List ℕ) → behind_d neg m n (converted t) ≡ image (behind_d neg m n t)
unfolding behind_d
behind-d-converted neg m n t =
    starting image (byte "-") refl (λ u. power_of neg m n true (run u) (behind_digits u)) t (power_converted neg m n true (drop 1 t))
    (starting image (byte "+") refl (λ u. power_of neg m n false (run u) (behind_digits u)) t (power_converted neg m n false (drop 1 t))
    (power_converted neg m n false t))

point-converted : (neg : Bool) (m n : ℕ) (t : List ℕ) → behind_point neg m n (converted t) ≡ image (behind_point neg m n t)
unfolding behind_point
point-converted neg m n t = starting image (byte "d") refl (behind_d neg m n) t (behind-d-converted neg m n (drop 1 t)) (decimal_converted neg m n (pos 0) t)

whole-converted : (neg : Bool) (m : ℕ) (t : List ℕ) → behind_whole neg m (converted t) ≡ image (behind_whole neg m t)
unfolding behind_whole
whole-converted neg m t =
    let u = drop 1 t in
    starting image (byte ".") refl (λ u. behind_point neg (number m (run u)) (length (run u)) (behind_digits u)) t (rw (run-converted u, behind-digits-converted u) (point-converted neg (number m (run u)) (length (run u)) (behind_digits u)))
    (starting image (byte "d") refl (behind_d neg m 0) t (behind-d-converted neg m 0 u)
    (int_converted neg m t))

unsigned-converted : (neg : Bool) (t : List ℕ) → unsigned neg (converted t) ≡ image (unsigned neg t)
unfolding unsigned
unsigned-converted neg t = rw (run-converted t, behind-digits-converted t) (choice image (whole (run t)) (whole-converted neg (number 0 (run t)) (behind_digits t)) refl)

pub numeral-converted : (t : List ℕ) → numeral (converted t) ≡ image (numeral t)
unfolding numeral
numeral-converted t = starting image (byte "-") refl (unsigned true) t (unsigned-converted true (drop 1 t)) (unsigned-converted false t)

-- ---- timestamps

joined-converted : (a w : ℕ) (t : List ℕ) → joined a w (converted t) ≡ image (joined a w t)
unfolding joined
joined-converted a zero t = refl
joined-converted a (suc w) [] = rw converted-nothing
joined-converted a (suc w) (c ∷ t) = go (seen decimals c t) (joined-converted (a * 10 + (c - byte "0")) w t)
  where
    go : Seen is_digit c t → joined (a * 10 + (c - byte "0")) w (converted t) ≡ image (joined (a * 10 + (c - byte "0")) w t) → joined a (suc w) (converted (c ∷ t)) ≡ image (if (is_digit c) (joined (a * 10 + (c - byte "0")) w t) none)
    go (found e i) again = rw (i, e) again
    go (other e d u k i) again = rw (i, e, k)

starts-digit-converted : (t : List ℕ) → starts_digit (converted t) ≡ starts_digit t
unfolding starts_digit
starts-digit-converted [] = rw converted-nothing
starts-digit-converted (c ∷ t) = go (seen decimals c t)
  where
    go : Seen is_digit c t → starts_digit (converted (c ∷ t)) ≡ is_digit c
    go (found e i) = rw i
    go (other e d u k i) = rw i (k ∙ sym e)

clock-converted : (t : List ℕ) → clock (converted t) ≡ image (clock t)
unfolding clock
clock-converted t =
    image_then (fixed 2 t) _ (joined-converted 0 2 t) (λ h.
    starting image (byte ":") refl (λ u. then (fixed 2 u) (λ m. some ((h.0, m.0), m.1))) h.1 (image_then (fixed 2 (drop 1 h.1)) _ (joined-converted 0 2 (drop 1 h.1)) (λ m. refl)) refl)

checked-converted : (x : Timestamp) (t : List ℕ) → checked x (converted t) ≡ image (checked x t)
unfolding checked
checked-converted x t = choice image (well_formed x) refl refl

minutes-converted : (t : List ℕ) → minutes (converted t) ≡ image (minutes t)
unfolding minutes
minutes-converted t = image_then (clock t) _ (clock-converted t) (λ c. choice image (leb c.0.0 23 && leb c.0.1 59) refl refl)

offset_converted : (x : Timestamp) (t : List ℕ) → offset_of x (converted t) ≡ image (offset_of x t)
unfolding offset_of
offset_converted x t =
    let m = minutes-converted (drop 1 t) in
    starting image (byte "Z") refl (checked (zoned x (pos 0))) t (checked-converted _ (drop 1 t))
    (starting image (byte "+") refl (λ u. then (minutes u) (λ m. checked (zoned x (pos m.0)) m.1)) t (image_then (minutes (drop 1 t)) _ m (λ v. checked-converted _ v.1))
    (starting image (byte "-") refl (λ u. then (minutes u) (λ m. checked (zoned x (west m.0)) m.1)) t (image_then (minutes (drop 1 t)) _ m (λ v. checked-converted _ v.1)) refl))

fraction-converted : (x : Timestamp) (h m s : ℕ) (ds t : List ℕ) → fraction_of x h m s ds (converted t) ≡ image (fraction_of x h m s ds t)
unfolding fraction_of
fraction-converted x h m s ds t = choice image (leb 1 (length ds) && leb (length ds) 9) (offset_converted _ t) refl

second-converted : (x : Timestamp) (h m : ℕ) (t : List ℕ) → second_of x h m (converted t) ≡ image (second_of x h m t)
unfolding second_of
second-converted x h m t =
    image_then (fixed 2 t) _ (joined-converted 0 2 t) (λ s.
    let u = drop 1 s.1 in
    starting image (byte ".") refl (λ u. fraction_of x h m s.0 (run u) (behind_digits u)) s.1 (rw (run-converted u, behind-digits-converted u) (fraction-converted x h m s.0 (run u) (behind_digits u)))
    (offset_converted _ s.1))

time_converted : (x : Timestamp) (t : List ℕ) → time_of x (converted t) ≡ image (time_of x t)
unfolding time_of
time_converted x t =
    image_then (clock t) _ (clock-converted t) (λ c.
    starting image (byte ":") refl (second_of x c.0.0 c.0.1) c.1 (second-converted x c.0.0 c.0.1 (drop 1 c.1))
    (offset_converted _ c.1))

day-converted : (x : Timestamp) (t : List ℕ) → day_of x (converted t) ≡ image (day_of x t)
unfolding day_of
day-converted x t = rw (starts-digit-converted t) (choice image (starts_digit t) (time_converted x t) (checked-converted x t))

month_converted : (year month : ℕ) (t : List ℕ) → behind_month year month (converted t) ≡ image (behind_month year month t)
unfolding behind_month
month_converted year month t =
    image_then (fixed 2 t) _ (joined-converted 0 2 t) (λ d.
    starting image (byte "T") refl (day_of (dated 2 year month d.0)) d.1 (day-converted _ (drop 1 d.1)) refl)

year_converted : (year : ℕ) (t : List ℕ) → behind_year year (converted t) ≡ image (behind_year year t)
unfolding behind_year
year_converted year t =
    image_then (fixed 2 t) _ (joined-converted 0 2 t) (λ m.
    starting image (byte "T") refl (checked (dated 1 year m.0 0)) m.1 (checked-converted _ (drop 1 m.1))
    (starting image (byte "-") refl (behind_month year m.0) m.1 (month_converted year m.0 (drop 1 m.1)) refl))

pub timestamp-converted : (t : List ℕ) → timestamp (converted t) ≡ image (timestamp t)
unfolding timestamp
timestamp-converted t =
    image_then (fixed 4 t) _ (joined-converted 0 4 t) (λ y.
    starting image (byte "T") refl (checked (dated 0 y.0 0 0)) y.1 (checked-converted _ (drop 1 y.1))
    (starting image (byte "-") refl (behind_year y.0) y.1 (year_converted y.0 (drop 1 y.1)) refl))

-- ---- a number as a value

pub numerics : Outside numeric
unfolding numeric is_digit
numerics = record { gone = gone_same numeric (λ c. false) refl; slash = refl }

pub numbers-converted : (t : List ℕ) → numbers (converted t) ≡ image (numbers t)
unfolding numbers
numbers-converted t =
    image_or (taken _ (float t)) _ (image-taken (float t) _ (float-converted t))
    (image_or (taken _ (timestamp t)) _ (image-taken (timestamp t) _ (timestamp-converted t))
    (image-taken (numeral t) numeral_node (numeral-converted t)))
