-- How much of a text is left behind a number: each takes a byte at least. Assumes nothing.
use Prim.Native.Nat.{ℕ, zero, suc, ◌+◌, ◌-◌, ◌*◌, ◌%◌, ◌^◌, ◌<◌}
use lib.IntN.{ℤ, pos}
use mathlib.Core.Path.{◌≡◌, refl, ap}
use mathlib.Core.Bool.{Bool, true, false, ◌&&◌}
use mathlib.Core.List.{List, [], ◌∷◌}
use native.Mathlib.Omega.{arith}
use lib.Dec.{eqb, leb, ltb}
use lib.ListN.{length, drop, length-drop}
use Rattle.output.specs.Logic.{if, byte, ascii}
use Rattle.text_rules.specs.Digits.{is_digit, run, behind_digits, number, whole}
use Rattle.text_rules.specs.Texts.{starts, strip, same}
use Rattle.text_rules.specs.Words.{word}
use Rattle.text_rules.proofs.WordsLaws.{same-is}
use Rattle.tokens.proofs.Shorter.{Left, unread, fewer, left_more, left-all, left_if, left_then, left_after, left_or, strip_long, word_long, behind_byte}
use Rattle.numbers.specs.Numeral.{numeral, with_sign, in_i64, ranged_int, shifted, ranged_decimal, power_of, behind_d, behind_point, behind_whole, unsigned}
use Rattle.numbers.specs.Timestamp.{well_formed}
use Rattle.numbers.specs.TimestampRead.{joined, fixed, starts_digit, clock, checked, minutes, offset_of, fraction_of, second_of, time_of, day_of, behind_month, behind_year, timestamp}
use Rattle.numbers.specs.declared.timestamp.Timestamp.{Timestamp}
use Rattle.floats.specs.Whole.{most_whole, ranged, scaled, behind_e, behind_all, behind_first, whole_number}
use Rattle.floats.specs.Float.{nan_word, spelled, signed_whole, float}

-- ---- timestamps

digits-left : (a w : ℕ) (t : List ℕ) → Left (suc (length t)) (joined a w t)
unfolding joined
digits-left a zero t = left-all a t
digits-left a (suc w) [] = unread
digits-left a (suc w) (c ∷ t) = left_if (is_digit c) (λ _. left_more (omega arith) (digits-left (a * 10 + (c - byte "0")) w t)) (λ _. unread)

clock-left : (t : List ℕ) → Left (suc (length t)) (clock t)
unfolding clock
clock-left t =
    left_then (fixed 2 t) _ (digits-left 0 2 t) (λ h l.
    left_if (starts (byte ":") h.1) (λ _. left_then (fixed 2 (drop 1 h.1)) _ (digits-left 0 2 (drop 1 h.1)) (λ m k. fewer (omega (arith, length-drop 1 h.1)))) (λ _. unread))

checked-left : (x : Timestamp) (t : List ℕ) → Left (suc (length t)) (checked x t)
unfolding checked
checked-left x t = left_if (well_formed x) (λ _. left-all x t) (λ _. unread)

minutes-left : (t : List ℕ) → Left (suc (length t)) (minutes t)
unfolding minutes
minutes-left t = left_then (clock t) _ (clock-left t) (λ c l. left_if (leb c.0.0 23 && leb c.0.1 59) (λ _. fewer l) (λ _. unread))

offset_left : (x : Timestamp) (t : List ℕ) → Left (suc (length t)) (offset_of x t)
unfolding offset_of
offset_left x t =
    let d = length-drop 1 t in
    left_if (starts (byte "Z") t) (λ _. left_more (omega arith) (checked-left _ (drop 1 t))) (λ _.
    left_if (starts (byte "+") t) (λ _. left_then (minutes (drop 1 t)) _ (minutes-left (drop 1 t)) (λ m l. left_more (omega arith) (checked-left _ m.1))) (λ _.
    left_if (starts (byte "-") t) (λ _. left_then (minutes (drop 1 t)) _ (minutes-left (drop 1 t)) (λ m l. left_more (omega arith) (checked-left _ m.1))) (λ _. unread)))

digits_long : (t : List ℕ) → length (behind_digits t) + length (run t) ≡ length t
unfolding behind_digits run
digits_long [] = refl
digits_long (c ∷ t) = go (is_digit c) (digits_long t)
  where
    go : (b : Bool) → length (behind_digits t) + length (run t) ≡ length t → length (if b (behind_digits t) (c ∷ t)) + length (if b (c ∷ run t) []) ≡ suc (length t)
    go true h = omega arith
    go false h = omega arith

fraction-left : (x : Timestamp) (h m s : ℕ) (ds t : List ℕ) → Left (suc (length t)) (fraction_of x h m s ds t)
unfolding fraction_of
fraction-left x h m s ds t = left_if (leb 1 (length ds) && leb (length ds) 9) (λ _. offset_left _ t) (λ _. unread)

second-left : (x : Timestamp) (h m : ℕ) (t : List ℕ) → Left (suc (length t)) (second_of x h m t)
unfolding second_of
second-left x h m t =
    left_then (fixed 2 t) _ (digits-left 0 2 t) (λ s l.
    left_if (starts (byte ".") s.1) (λ _. left_more (omega (arith, length-drop 1 s.1, digits_long (drop 1 s.1))) (fraction-left x h m s.0 (run (drop 1 s.1)) (behind_digits (drop 1 s.1))))
    (λ _. left_more (omega arith) (offset_left _ s.1)))

time_left : (x : Timestamp) (t : List ℕ) → Left (suc (length t)) (time_of x t)
unfolding time_of
time_left x t =
    left_then (clock t) _ (clock-left t) (λ c l.
    left_if (starts (byte ":") c.1) (λ _. left_more (omega (arith, length-drop 1 c.1)) (second-left x c.0.0 c.0.1 (drop 1 c.1)))
    (λ _. left_more (omega arith) (offset_left _ c.1)))

day-left : (x : Timestamp) (t : List ℕ) → Left (suc (length t)) (day_of x t)
unfolding day_of
day-left x t = left_if (starts_digit t) (λ _. time_left x t) (λ _. checked-left x t)

month_left : (year month : ℕ) (t : List ℕ) → Left (suc (length t)) (behind_month year month t)
unfolding behind_month
month_left year month t =
    left_then (fixed 2 t) _ (digits-left 0 2 t) (λ d l.
    left_if (starts (byte "T") d.1) (λ _. left_more (omega (arith, length-drop 1 d.1)) (day-left _ (drop 1 d.1))) (λ _. unread))

year_left : (year : ℕ) (t : List ℕ) → Left (suc (length t)) (behind_year year t)
unfolding behind_year
year_left year t =
    left_then (fixed 2 t) _ (digits-left 0 2 t) (λ m l.
    left_if (starts (byte "T") m.1) (λ _. left_more (omega (arith, length-drop 1 m.1)) (checked-left _ (drop 1 m.1))) (λ _.
    left_if (starts (byte "-") m.1) (λ _. left_more (omega (arith, length-drop 1 m.1)) (month_left year m.0 (drop 1 m.1))) (λ _. unread)))

-- a byte behind the year is passed
pub timestamp-left : (t : List ℕ) → Left (length t) (timestamp t)
unfolding timestamp
timestamp-left t =
    left_then (fixed 4 t) _ (digits-left 0 4 t) (λ y l.
    left_if (starts (byte "T") y.1) (λ e. left_more (let b = behind_byte (byte "T") y.1 e in omega arith) (checked-left _ (drop 1 y.1))) (λ _.
    left_if (starts (byte "-") y.1) (λ e. left_more (let b = behind_byte (byte "-") y.1 e in omega arith) (year_left y.0 (drop 1 y.1))) (λ _. unread)))

-- ---- ints and decimals

int_left : (neg : Bool) (m : ℕ) (r : List ℕ) → Left (suc (length r)) (ranged_int neg m r)
unfolding ranged_int
int_left neg m r = left_if (neg && eqb m 0) (λ _. unread) (λ _. left_after (in_i64 (with_sign neg m)) _ (λ z _. left-all _ r))

decimal_left : (neg : Bool) (m n : ℕ) (e : ℤ) (r : List ℕ) → Left (suc (length r)) (ranged_decimal neg m n e r)
unfolding ranged_decimal
decimal_left neg m n e r = left_if (ltb m _) (λ _. left_after (shifted n e) _ (λ x _. left-all _ r)) (λ _. unread)

power_left : (neg : Bool) (m n : ℕ) (minus : Bool) (es r : List ℕ) → Left (suc (length r)) (power_of neg m n minus es r)
unfolding power_of
power_left neg m n minus es r = left_if (leb 1 (length es) && leb (length es) 10) (λ _. decimal_left neg m n _ r) (λ _. unread)

behind-d-left : (neg : Bool) (m n : ℕ) (t : List ℕ) → Left (suc (length t)) (behind_d neg m n t)
unfolding behind_d
behind-d-left neg m n t =
    let d = length-drop 1 t in
    let k = digits_long (drop 1 t) in
    left_if (starts (byte "-") t) (λ _. left_more (omega arith) (power_left neg m n true (run (drop 1 t)) (behind_digits (drop 1 t)))) (λ _.
    left_if (starts (byte "+") t) (λ _. left_more (omega arith) (power_left neg m n false (run (drop 1 t)) (behind_digits (drop 1 t))))
    (λ _. left_more (omega (arith, digits_long t)) (power_left neg m n false (run t) (behind_digits t))))

point-left : (neg : Bool) (m n : ℕ) (t : List ℕ) → Left (suc (length t)) (behind_point neg m n t)
unfolding behind_point
point-left neg m n t = left_if (starts (byte "d") t) (λ _. left_more (omega (arith, length-drop 1 t)) (behind-d-left neg m n (drop 1 t))) (λ _. decimal_left neg m n (pos 0) t)

whole-left : (neg : Bool) (m : ℕ) (t : List ℕ) → Left (suc (length t)) (behind_whole neg m t)
unfolding behind_whole
whole-left neg m t =
    let d = length-drop 1 t in
    left_if (starts (byte ".") t) (λ _. left_more (omega (arith, digits_long (drop 1 t))) (point-left neg (number m (run (drop 1 t))) (length (run (drop 1 t))) (behind_digits (drop 1 t)))) (λ _.
    left_if (starts (byte "d") t) (λ _. left_more (omega arith) (behind-d-left neg m 0 (drop 1 t)))
    (λ _. int_left neg m t))

whole-some : (ds : List ℕ) → whole ds ≡ true → 0 < length ds
unfolding whole
whole-some [] e = absurd (let z : ◌≡◌ {A = ℕ} 0 1 = cc in omega arith)
whole-some (c ∷ ds) e = omega arith

unsigned-left : (neg : Bool) (t : List ℕ) → Left (length t) (unsigned neg t)
unfolding unsigned
unsigned-left neg t = left_if (whole (run t)) (λ e. left_more (omega (arith, digits_long t, whole-some (run t) e)) (whole-left neg (number 0 (run t)) (behind_digits t))) (λ _. unread)

pub numeral-left : (t : List ℕ) → Left (length t) (numeral t)
unfolding numeral
numeral-left t = left_if (starts (byte "-") t) (λ _. left_more (omega (arith, length-drop 1 t)) (unsigned-left true (drop 1 t))) (λ _. unsigned-left false t)

-- ---- floats

ranged-left : (m f e : ℕ) (r : List ℕ) → Left (suc (length r)) (ranged m f e r)
unfolding ranged
ranged-left m f e r = left_if (leb f e && leb e 15 && leb (m * 10 ^ (e - f)) most_whole) (λ _. left-all _ r) (λ _. unread)

scaled-left : (m f e : ℕ) (r : List ℕ) → Left (suc (length r)) (scaled m f e r)
unfolding scaled
scaled-left m f e r =
    left_if (eqb m 0) (λ _. left_if (eqb e 0) (λ _. left-all 0 r) (λ _. unread)) (λ _.
    left_if (eqb (m % 10) 0) (λ _. unread) (λ _. ranged-left m f e r))

behind_e_left : (m f : ℕ) (t : List ℕ) → Left (suc (length t)) (behind_e m f t)
unfolding behind_e
behind_e_left m f t = left_if (whole (run t)) (λ _. left_more (omega (arith, digits_long t)) (scaled-left m f (number 0 (run t)) (behind_digits t))) (λ _. unread)

behind-all-left : (m f : ℕ) (t : List ℕ) → Left (suc (length t)) (behind_all m f t)
unfolding behind_all
behind-all-left m f t = left_if (starts (byte "e") t) (λ _. left_more (omega (arith, length-drop 1 t)) (behind_e_left m f (drop 1 t))) (λ _. unread)

behind-first-left : (m : ℕ) (t : List ℕ) → Left (suc (length t)) (behind_first m t)
unfolding behind_first
behind-first-left m t =
    let ds = run (drop 1 t) in
    left_if (starts (byte ".") t) (λ _. left_if (leb 1 m && leb 1 (length ds)) (λ _. left_more (omega (arith, length-drop 1 t, digits_long (drop 1 t))) (behind-all-left (number m ds) (length ds) (behind_digits (drop 1 t)))) (λ _. unread))
    (λ _. behind-all-left m 0 t)

number-left : (t : List ℕ) → Left (length t) (whole_number t)
unfolding whole_number
number-left [] = unread
number-left (c ∷ t) = left_if (is_digit c) (λ _. behind-first-left (c - byte "0") t) (λ _. unread)

signed-left : (s : Bool) (t : List ℕ) → Left (length t) (signed_whole s t)
unfolding signed_whole
signed-left s t = left_then (whole_number t) _ (number-left t) (λ v l. fewer l)

spelled-left : (w : List ℕ) (s : Bool) (t : List ℕ) → 0 < length w → Left (length t) (spelled w s t)
unfolding spelled
spelled-left w s t l = left_after (strip w t) _ (λ r e. fewer (omega (arith, strip_long w t r e)))

nan_left : (t : List ℕ) → Left (length t) (nan_word t)
unfolding nan_word
nan_left t = left_if (same (ascii "nan") (word t)) (λ e. fewer (let k : length (word t) ≡ 3 = ap length (same-is (ascii "nan") (word t) e) in omega (arith, word_long t))) (λ _. unread)

pub float-left : (t : List ℕ) → Left (length t) (float t)
unfolding float
float-left t =
    left_or (nan_word t) _ (nan_left t)
    (left_or (spelled (ascii "+inf") false t) _ (spelled-left (ascii "+inf") false t (omega arith))
    (left_or (spelled (ascii "-inf") true t) _ (spelled-left (ascii "-inf") true t (omega arith))
    (left_or (signed_whole false t) _ (signed-left false t) (left_after (strip (ascii "-") t) _ (λ r e. left_more (omega (arith, strip_long (ascii "-") t r e)) (signed-left true r))))))
