-- Whole numbers and floats: a whole number's float is that number, a float that is a whole number is its float, and what the bits say. Assumes nothing.
use mathlib.Core.Path.{◌≡◌, refl, sym, ap, ◌∙◌, subst}
use mathlib.Core.Bool.{Bool, true, false, ◌&&◌, cond, false≢true}
use mathlib.Core.Option.{Option, none, some}
use Prim.Native.Nat.{ℕ, zero, suc, ◌+◌, ◌-◌, ◌*◌, ◌/◌, ◌%◌, ◌^◌, ◌≤◌, ◌<◌}
use native.Mathlib.Nat.{le_trans, le_of_eq, le_antisymm, lt_of_lt_of_le, lt_of_le_of_lt, lt_of_not-le, lt_irrefl, mul-one, one-mul, mul_assoc, mul_left_comm, mul_right_comm, mul-le-mul_right, mul-div_cancel, div-one, eq_of_mul-eq-mul_right, pow-succ'}
use native.Mathlib.Omega.{arith}
use lib.IntN.{ℤ, pos, negsuc}
use lib.Dec.{T, leb, ltb, eqb, leb→le, le→leb, eqb→eq, lit<, lit≤}
use lib.Pow.{pow-add, pow_pos, pow_mono, shl_lt}
use lib.Count.{count_trailing_zeros}
use lib.Ieee.{Float, nan, inf, fin, binary64, minus, size, odd, fits, hid, top, of_bits, to_bits}
use lib.Ieee.Bits.{is_true, of_bits-to_bits}
use lib.Ieee.Digits.{size-lt, size-le}
use lib.Ieee.Exact.{HasValue, odd_sign}
use lib.Ieee.Fits.{odd-fits, and_l}
use lib.Ieee.Back.{whole_unique}
use Rattle.floats.specs.Whole.{most_whole}
use Rattle.floats.specs.Value.{whole_of, up_to, magnitude, is_whole, is_negative, whole_float}

-- ---- the float of a whole number

-- nothing is taken off the exponent
from_low : (t : ℕ) → minus (1074 + t) 1074 ≡ pos t
from_low t =
    let l : T (leb 1074 (1074 + t)) = le→leb 1074 (1074 + t) (omega arith) in
    let d : 1074 + t - 1074 ≡ t = omega arith in
    ap (λ (b : Bool). cond b (pos (1074 + t - 1074)) (negsuc (1074 - suc (1074 + t)))) (is_true (leb 1074 (1074 + t)) l) ∙ ap pos d

-- it is what the kit writes for that many of the smallest values, 2 ^ 1074 times over
whole-odd : (s : Bool) (n : ℕ) → odd 54 s n 1074 1074 ≡ whole_float s n
unfolding odd whole_float
whole-odd s zero = refl
whole-odd s (suc n) = ap (λ (e : ℤ). fin s (suc n / 2 ^ count_trailing_zeros 54 (suc n)) e) (from_low (count_trailing_zeros 54 (suc n)))

pub cancel : (a b l : ℕ) → a * 2 ^ l ≡ b * 2 ^ l → a ≡ b
cancel a b l h = eq_of_mul-eq-mul_right (2 ^ l) (pow_pos l) a b h

abbrev Form : Bool → ℕ → Float → Type 0
Form s n x = (m : ℕ) × (t : ℕ) × (x ≡ fin s m (pos t)) × (m * 2 ^ t ≡ n)

whole-form : (s : Bool) (n : ℕ) → Form s n (whole_float s n)
unfolding odd whole_float
whole-form s zero = (zero, zero, refl, refl)
whole-form s (suc n) =
    let t = count_trailing_zeros 54 (suc n) in
    let m = suc n / 2 ^ t in
    let v : HasValue (whole_float s (suc n)) s (suc n * 2 ^ 1074) (2 ^ 1074) = subst (λ (x : Float). HasValue x s (suc n * 2 ^ 1074) (2 ^ 1074)) (whole-odd s (suc n)) (odd_sign 54 s (suc n) 1074 1074) in
    (m, t, refl, cancel (m * 2 ^ t) (suc n) 1074 (v.1 ∙ mul-one (suc n * 2 ^ 1074)))

-- the whole number that it is
pub whole-of : (s : Bool) (n : ℕ) → whole_of (whole_float s n) ≡ some n
unfolding whole_of
whole-of s n = let w = whole-form s n in ap whole_of w.2 ∙ ap some w.3

pub whole-negative : (s : Bool) (n : ℕ) → is_negative (whole_float s n) ≡ s
unfolding is_negative
whole-negative s n = let w = whole-form s n in ap is_negative w.2

up-some : (n : ℕ) → n ≤ most_whole → up_to (some n) ≡ some n
unfolding up_to
up-some n h = rw (is_true (leb n most_whole) (le→leb n most_whole h))

pub whole-magnitude : (s : Bool) (n : ℕ) → n ≤ most_whole → magnitude (whole_float s n) ≡ some n
unfolding magnitude
whole-magnitude s n h = ap up_to (whole-of s n) ∙ up-some n h

room : (n l e : ℕ) → n ≤ 2 ^ 53 → 54 ≤ e → n * 2 ^ l < 2 ^ (l + e)
room n l e h k =
    lt_of_lt_of_le (shl_lt 54 l (lt_of_le_of_lt h (lit< tt))) (pow_mono (omega arith))

pub whole-fits : (s : Bool) (n : ℕ) → n ≤ most_whole → T (fits binary64 (whole_float s n))
whole-fits s n h =
    subst (λ (x : Float). T (fits binary64 x)) (whole-odd s n) (odd-fits binary64 54 s n 1074 (lt_of_le_of_lt h (lit< tt)) h (room n 1074 1024 h (lit≤ tt)))

-- ---- its bits

size_is : (a n : ℕ) → 2 ^ a ≤ n → n < 2 ^ suc a → size n ≡ suc a
size_is a n lo hi =
    le_antisymm (size-le n (suc a) hi) (lt_of_not-le (λ (g : size n ≤ a). lt_irrefl n (lt_of_lt_of_le (lt_of_lt_of_le (size-lt n) (pow_mono g)) lo)))

-- a number of 53 digits, moved up by k
size-at : (q k : ℕ) → 2 ^ 52 ≤ q → q < 2 ^ 53 → size (q * 2 ^ k) - 53 ≡ k
size-at q k lo hi =
    let l : 2 ^ (52 + k) ≤ q * 2 ^ k = le_trans (le_of_eq (pow-add 2 52 k)) (mul-le-mul_right (2 ^ k) lo) in
    let z : size (q * 2 ^ k) ≡ suc (52 + k) = size_is (52 + k) (q * 2 ^ k) l (subst (λ (x : ℕ). q * 2 ^ k < 2 ^ x) (omega arith) (shl_lt 53 k hi)) in
    omega (arith, z)

fin-bits : (s : Bool) (m t n : ℕ) → m * 2 ^ t * 2 ^ 1074 ≡ n → to_bits binary64 (fin s m (pos t)) ≡ cond s (top binary64) 0 + (size n - 53) * hid binary64 + n / 2 ^ (size n - 53)
unfolding to_bits
fin-bits s m t n h = ap (λ (x : ℕ). cond s (top binary64) 0 + (size x - 53) * hid binary64 + x / 2 ^ (size x - 53)) (div-one (m * 2 ^ t * 2 ^ 1074) ∙ h)

pub whole-bits : (s : Bool) (n q k : ℕ) → n * 2 ^ 1074 ≡ q * 2 ^ k → 2 ^ 52 ≤ q → q < 2 ^ 53 → to_bits binary64 (whole_float s n) ≡ cond s (top binary64) 0 + k * hid binary64 + q
whole-bits s n q k e lo hi =
    let w = whole-form s n in
    ap (to_bits binary64) w.2
    ∙ fin-bits s w.0 w.1 (q * 2 ^ k) (ap (λ (x : ℕ). x * 2 ^ 1074) w.3 ∙ e)
    ∙ ap (λ (j : ℕ). cond s (top binary64) 0 + j * hid binary64 + q * 2 ^ k / 2 ^ j) (size-at q k lo hi)
    ∙ ap (λ (x : ℕ). cond s (top binary64) 0 + k * hid binary64 + x) (mul-div_cancel q (pow_pos k))

pub zero_bits : to_bits binary64 (whole_float false 0) ≡ 0
unfolding to_bits whole_float
zero_bits = refl

pub most_bits : to_bits binary64 (whole_float false most_whole) ≡ 0x4340_0000_0000_0000
most_bits = whole-bits false most_whole 4_503_599_627_370_496 1075 refl (lit≤ tt) (lit< tt)

-- moved up by i to 53 digits
pub moved_bits : (n i : ℕ) → i ≤ 1074 → 2 ^ 52 ≤ n * 2 ^ i → n * 2 ^ i < 2 ^ 53 → to_bits binary64 (whole_float false n) ≡ (1074 - i) * 4_503_599_627_370_496 + n * 2 ^ i
moved_bits n i h lo hi =
    let j : i + (1074 - i) ≡ 1074 = omega arith in
    let e : n * 2 ^ 1074 ≡ n * 2 ^ i * 2 ^ (1074 - i) = ap (λ (x : ℕ). n * 2 ^ x) (sym j) ∙ ap (λ (x : ℕ). n * x) (pow-add 2 i (1074 - i)) ∙ sym (mul_assoc n (2 ^ i) (2 ^ (1074 - i))) in
    whole-bits false n (n * 2 ^ i) (1074 - i) e lo hi ∙ omega arith

-- the sign is the top bit
sign-bits : (m t : ℕ) → to_bits binary64 (fin true m (pos t)) ≡ 0x8000_0000_0000_0000 + to_bits binary64 (fin false m (pos t))
unfolding to_bits
sign-bits m t = omega arith

pub negative-bits : (n : ℕ) → to_bits binary64 (whole_float true n) ≡ 0x8000_0000_0000_0000 + to_bits binary64 (whole_float false n)
unfolding whole_float
negative-bits zero = sign-bits 0 0
negative-bits (suc n) = sign-bits (suc n / 2 ^ count_trailing_zeros 54 (suc n)) (count_trailing_zeros 54 (suc n))

-- ---- the whole number of a float whose magnitude is w of 2 ^ l parts

none_there : (n : ℕ) → (n ≤ most_whole → ⊥) → up_to (some n) ≡ none
unfolding up_to
none_there n out = go (leb n most_whole) refl
  where
    go : (b : Bool) → leb n most_whole ≡ b → up_to (some n) ≡ none
    go true e = absurd (out (leb→le n most_whole (subst T (sym e) tt)))
    go false e = rw e

pub magnitude-none : (x : Float) (s : Bool) (w l : ℕ) → HasValue x s w (2 ^ l) → ((n : ℕ) → n ≤ most_whole → n * 2 ^ l ≡ w → ⊥) → magnitude x ≡ none
unfolding magnitude whole_of up_to
magnitude-none nan s w l v out = refl
magnitude-none (inf t) s w l v out = refl
magnitude-none (fin t m (negsuc a)) s w l v out = refl
magnitude-none (fin t m (pos a)) s w l v out = none_there (m * 2 ^ a) (λ h. out (m * 2 ^ a) h (v.1 ∙ mul-one w))

even_odd : (m t : ℕ) → m % 2 ≡ 1 → m ≡ 2 * t → ⊥
even_odd m t o h = omega arith

two_up : (p : ℕ) → 0 < p → 2 * p ≡ 1 → ⊥
two_up p h e = omega arith

-- a float that fits and has a negative exponent has an odd m
odd_there : (s : Bool) (m a : ℕ) → T (fits binary64 (fin s m (negsuc a))) → m % 2 ≡ 1
unfolding fits
odd_there s zero a t = absurd (two_up (2 ^ a) (pow_pos a) (sym (pow-succ' 2 a) ∙ sym (one-mul (2 ^ suc a)) ∙ eqb→eq (1 * 2 ^ suc a) 1 t))
odd_there s (suc m) a t =
    let p = 2 ^ suc a in
    eqb→eq (suc m % 2) 1 (and_l (eqb (suc m % 2) 1) (ltb (suc m) (2 ^ 53)) (and_l (eqb (suc m % 2) 1 && ltb (suc m) (2 ^ 53)) (leb p (2 ^ 1074)) (and_l (eqb (suc m % 2) 1 && ltb (suc m) (2 ^ 53) && leb p (2 ^ 1074)) (ltb (suc m * 1) (2 ^ 1024 * p)) t)))

no_part : (m n l a : ℕ) → m % 2 ≡ 1 → m * 1 * 2 ^ l ≡ n * 2 ^ l * 2 ^ suc a → ⊥
no_part m n l a o h =
    let e : m * 1 ≡ n * 2 ^ suc a = cancel (m * 1) (n * 2 ^ suc a) l (h ∙ mul_right_comm n (2 ^ l) (2 ^ suc a)) in
    even_odd m (n * 2 ^ a) o (sym (mul-one m) ∙ e ∙ ap (λ (x : ℕ). n * x) (pow-succ' 2 a) ∙ mul_left_comm n 2 (2 ^ a))

of_value : (x : Float) (s : Bool) (n l : ℕ) → T (fits binary64 x) → HasValue x s (n * 2 ^ l) (2 ^ l) → whole_of x ≡ some n
unfolding whole_of
of_value nan s n l f v = absurd v
of_value (inf t) s n l f v = absurd v
of_value (fin t m (negsuc a)) s n l f v = absurd (no_part m n l a (odd_there t m a f) v.1)
of_value (fin t m (pos a)) s n l f v = ap some (cancel (m * 2 ^ a) n l (v.1 ∙ mul-one (n * 2 ^ l)))

pub magnitude-some : (x : Float) (s : Bool) (n w l : ℕ) → T (fits binary64 x) → HasValue x s w (2 ^ l) → n * 2 ^ l ≡ w → n ≤ most_whole → magnitude x ≡ some n
unfolding magnitude
magnitude-some x s n w l f v e h = ap up_to (of_value x s n l f (subst (λ (y : ℕ). HasValue x s y (2 ^ l)) (sym e) v)) ∙ up-some n h

-- ---- a float that is a whole number is that number's float

pub nothing : (n : ℕ) → ◌≡◌ {A = Option ℕ} none (some n) → ⊥
nothing n e = let z : ◌≡◌ {A = ℕ} 0 1 = cc in omega arith

up-says : (o : Option ℕ) (n : ℕ) → up_to o ≡ some n → (o ≡ some n) × (n ≤ most_whole)
unfolding up_to
up-says none n e = absurd (nothing n e)
up-says (some k) n e = go (leb k most_whole) refl
  where
    go : (b : Bool) → leb k most_whole ≡ b → (some k ≡ some n) × (n ≤ most_whole)
    go true h =
        let q : some k ≡ some n = rw h at e in
        let i : k ≡ n = cc in
        (q, subst (λ (y : ℕ). y ≤ most_whole) i (leb→le k most_whole (subst T (sym h) tt)))
    go false h = absurd (nothing n (rw h at e))

pub magnitude_most : (x : Float) (n : ℕ) → magnitude x ≡ some n → n ≤ most_whole
unfolding magnitude
magnitude_most x n e = (up-says (whole_of x) n e).1

value_of : (x : Float) (n : ℕ) → whole_of x ≡ some n → HasValue x (is_negative x) n 1
unfolding whole_of is_negative
value_of nan n e = absurd (nothing n e)
value_of (inf t) n e = absurd (nothing n e)
value_of (fin t m (negsuc a)) n e = absurd (nothing n e)
value_of (fin t m (pos a)) n e = let i : m * 2 ^ a ≡ n = cc in (refl, ap (λ (y : ℕ). y * 1) i)

pub whole_float_lem : (x : Float) (n : ℕ) → T (fits binary64 x) → magnitude x ≡ some n → x ≡ whole_float (is_negative x) n
unfolding magnitude
whole_float_lem x n f e =
    let u = up-says (whole_of x) n e in
    let s = is_negative x in
    let v : HasValue (whole_float s n) s n 1 = subst (λ (t : Bool). HasValue (whole_float s n) t n 1) (whole-negative s n) (value_of (whole_float s n) n (whole-of s n)) in
    whole_unique binary64 x (whole_float s n) s n f (whole-fits s n u.1) (value_of x n u.0) v

has-number : (x : Float) → is_whole x ≡ true → (n : ℕ) × (magnitude x ≡ some n)
unfolding is_whole magnitude
has-number x e = go (up_to (whole_of x)) refl
  where
    go : (o : Option ℕ) → up_to (whole_of x) ≡ o → (n : ℕ) × (up_to (whole_of x) ≡ some n)
    go none h = absurd (false≢true (rw h at e))
    go (some n) h = (n, h)

pub is-whole : (x : Float) → T (fits binary64 x) → is_whole x ≡ true → (n : ℕ) × (n ≤ most_whole) × (whole_of x ≡ some n) × (x ≡ whole_float (is_negative x) n)
is-whole x f e =
    let h = has-number x e in
    let u = up-says (whole_of x) h.0 (unfold magnitude in h.1) in
    (h.0, u.1, u.0, whole_float_lem x h.0 f h.1)

pub whole_is : (s : Bool) (n : ℕ) → n ≤ most_whole → is_whole (whole_float s n) ≡ true
unfolding is_whole
whole_is s n h = rw (whole-magnitude s n h)

-- the bits written for it are read as it
pub bits_back : (s : Bool) (n : ℕ) → n ≤ most_whole → of_bits binary64 (to_bits binary64 (whole_float s n)) ≡ whole_float s n
bits_back s n h = of_bits-to_bits binary64 (whole_float s n) (whole-fits s n h)
