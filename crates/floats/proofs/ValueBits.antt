-- What the bits of a float say of the whole number that it is. Assumes nothing.
use mathlib.Core.Path.{◌≡◌, refl, sym, ap, ◌∙◌, subst}
use mathlib.Core.Bool.{Bool, true, false, not, cond}
use mathlib.Core.Option.{Option, none, some}
use Prim.Native.Nat.{ℕ, zero, suc, ◌+◌, ◌-◌, ◌*◌, ◌/◌, ◌%◌, ◌^◌, ◌≤◌, ◌<◌}
use native.Mathlib.Nat.{le_refl, le_trans, le_of_eq, lt_of_lt_of_le, lt_of_not-le, lt_irrefl, zero-mul, mul_assoc, mul-pos, mul-le-mul_left, mul-le-mul_right}
use native.Mathlib.Decide.{dec_le}
use native.Mathlib.Omega.{arith}
use lib.Dec.{T, leb, eqb, eqb→eq, not_T, lit<, lit≤}
use lib.Pow.{pow-add, pow_pos, pow_mono, shl_lt}
use lib.Count.{count_leading_zeros, leading_top}
use lib.Ieee.{Float, nan, inf, fin, binary64, top, odd, is_nan, of_fields, of_bits, to_bits, nan_bits}
use lib.Ieee.Bits.{cond_no, nan_bits_is, of_bits-fits, to_bits-of_bits}
use lib.Ieee.Exact.{HasValue, odd_sign}
use borrow.Author.Tests.{eq-eqb, eqb-true}
use Rattle.std.specs.Bool.{then_some}
use Rattle.text_rules.proofs.DigitLaws.{never}
use Rattle.text_rules.specs.Reading.{found}
use Rattle.floats.specs.Whole.{most_whole}
use Rattle.floats.specs.Value.{whole_of, up_to, magnitude, is_negative, whole_float}
use Rattle.floats.proofs.ValueLaws.{cancel, whole-magnitude, magnitude-none, magnitude-some, nothing, whole_float_lem, bits_back}

-- a number that a test of equality gives, or none
pub told_if : (n k v : ℕ) (o : Option ℕ) → (n ≡ k → o ≡ some v) → ((n ≡ k → ⊥) → o ≡ none) → found (then_some (eqb n k) v) ≡ o
told_if n k v o y z = go (eqb n k) refl
  where
    go : (b : Bool) → eqb n k ≡ b → found (then_some b v) ≡ o
    go true e = sym (y (eqb-true n k e))
    go false e = sym (z (λ h. never (sym (eq-eqb n k h) ∙ e)))

-- ---- what the bits are read as

abbrev pub exponent : ℕ → ℕ
exponent b = b % 9_223_372_036_854_775_808 / 4_503_599_627_370_496

abbrev pub fraction : ℕ → ℕ
fraction b = b % 4_503_599_627_370_496

fields-of : (b : ℕ) → of_bits binary64 b ≡ of_fields binary64 (leb (top binary64) b) (exponent b) (fraction b)
unfolding of_bits
fields-of b = refl

at_zero : (s : Bool) (t : ℕ) → of_fields binary64 s 0 t ≡ odd 53 s t 0 1074
unfolding of_fields
at_zero s t = refl

under_ones : (s : Bool) (x t : ℕ) → suc x < 2047 → of_fields binary64 s (suc x) t ≡ odd 53 s (4_503_599_627_370_496 + t) x 1074
unfolding of_fields
under_ones s x t h =
    cond_no (eqb (suc x) 2047) (cond (eqb t 0) (inf s) nan) (odd 53 s (4_503_599_627_370_496 + t) x 1074) (not_T (eqb (suc x) 2047) (λ e. let z = eqb→eq (suc x) 2047 e in omega arith))

at_ones : (s : Bool) (t : ℕ) → of_fields binary64 s 2047 t ≡ cond (eqb t 0) (inf s) nan
unfolding of_fields
at_ones s t = refl

no_number : (b s : Bool) → magnitude (cond b (inf s) nan) ≡ none
unfolding magnitude whole_of up_to
no_number true s = refl
no_number false s = refl

top-none : (b : ℕ) → exponent b ≡ 2047 → magnitude (of_bits binary64 b) ≡ none
top-none b e =
    let s = leb (top binary64) b in
    let t = fraction b in
    ap magnitude (fields-of b ∙ ap (λ (x : ℕ). of_fields binary64 s x t) e ∙ at_ones s t) ∙ no_number (eqb t 0) s

-- without a leading digit
low-is : (b : ℕ) → exponent b ≡ 0 → HasValue (of_bits binary64 b) (leb (top binary64) b) (fraction b * 2 ^ 0) (2 ^ 1074)
low-is b e =
    let s = leb (top binary64) b in
    let t = fraction b in
    subst (λ (x : Float). HasValue x s (t * 2 ^ 0) (2 ^ 1074)) (sym (fields-of b ∙ ap (λ (x : ℕ). of_fields binary64 s x t) e ∙ at_zero s t)) (odd_sign 53 s t 0 1074)

-- with one
mid_is : (b x : ℕ) → exponent b ≡ suc x → suc x < 2047 → HasValue (of_bits binary64 b) (leb (top binary64) b) ((4_503_599_627_370_496 + fraction b) * 2 ^ x) (2 ^ 1074)
mid_is b x e h =
    let s = leb (top binary64) b in
    let t = fraction b in
    let q = 4_503_599_627_370_496 + t in
    subst (λ (y : Float). HasValue y s (q * 2 ^ x) (2 ^ 1074)) (sym (fields-of b ∙ ap (λ (y : ℕ). of_fields binary64 s y t) e ∙ under_ones s x t h)) (odd_sign 53 s q x 1074)

-- less than one, and not zero
part : (n q x l : ℕ) → 0 < q → q < 2 ^ 53 → 53 + x ≤ l → n * 2 ^ l ≡ q * 2 ^ x → ⊥
part zero q x l p h k e =
    let z : 0 < q * 2 ^ x = mul-pos p (pow_pos x) in
    let y : 0 * 2 ^ l ≡ 0 = zero-mul (2 ^ l) in
    omega arith
part (suc n) q x l p h k e =
    let a : q * 2 ^ x < 2 ^ l = lt_of_lt_of_le (shl_lt 53 x h) (pow_mono k) in
    let b : 1 * 2 ^ l ≤ suc n * 2 ^ l = mul-le-mul_right (2 ^ l) (omega arith) in
    omega arith

-- over the most
over : (n q j l : ℕ) → n ≤ most_whole → most_whole < q * 2 ^ j → n * 2 ^ l ≡ q * 2 ^ (j + l) → ⊥
over n q j l h k e =
    let i : n ≡ q * 2 ^ j = cancel n (q * 2 ^ j) l (e ∙ ap (λ (x : ℕ). q * x) (pow-add 2 j l) ∙ sym (mul_assoc q (2 ^ j) (2 ^ l))) in
    omega arith

-- moved down by i
down_by : (n i x l : ℕ) → l ≡ i + x → n * 2 ^ l ≡ n * 2 ^ i * 2 ^ x
down_by n i x l h = ap (λ (y : ℕ). n * 2 ^ y) h ∙ ap (λ (y : ℕ). n * y) (pow-add 2 i x) ∙ sym (mul_assoc n (2 ^ i) (2 ^ x))

-- ---- by the exponent

pub zero-told : (b : ℕ) → exponent b ≡ 0 → fraction b ≡ 0 → magnitude (of_bits binary64 b) ≡ some 0
zero-told b e z =
    magnitude-some (of_bits binary64 b) (leb (top binary64) b) 0 (fraction b * 2 ^ 0) 1074 (of_bits-fits binary64 b) (low-is b e)
    (zero-mul (2 ^ 1074) ∙ sym (zero-mul (2 ^ 0)) ∙ ap (λ (t : ℕ). t * 2 ^ 0) (sym z)) (lit≤ tt)

pub low_told : (b : ℕ) → exponent b ≡ 0 → 0 < fraction b → magnitude (of_bits binary64 b) ≡ none
low_told b e z =
    magnitude-none (of_bits binary64 b) (leb (top binary64) b) (fraction b * 2 ^ 0) 1074 (low-is b e)
    (λ n l. part n (fraction b) 0 1074 z (omega arith) (lit≤ tt))

pub part-told : (b : ℕ) → 0 < exponent b → exponent b < 1023 → magnitude (of_bits binary64 b) ≡ none
part-told b p h =
    let x = exponent b - 1 in
    let q = 4_503_599_627_370_496 + fraction b in
    magnitude-none (of_bits binary64 b) (leb (top binary64) b) (q * 2 ^ x) 1074 (mid_is b x (omega arith) (omega arith))
    (λ n l. part n q x 1074 (omega arith) (omega arith) (omega arith))

-- from two to the 54 on
pub over_told : (b : ℕ) → 1076 < exponent b → magnitude (of_bits binary64 b) ≡ none
over_told b h = go (dec_le (exponent b) 2046)
  where
    go : Dec (exponent b ≤ 2046) → magnitude (of_bits binary64 b) ≡ none
    go (no k) = top-none b (omega arith)
    go (yes k) =
        let x = exponent b - 1 in
        let j = x - 1074 in
        let q = 4_503_599_627_370_496 + fraction b in
        let a : j + 1074 ≡ x = omega arith in
        let p : 2 ^ 2 ≤ 2 ^ j = pow_mono {i = 2} {j = j} (omega arith) in
        let m : 4_503_599_627_370_496 * 2 ^ j ≤ q * 2 ^ j = mul-le-mul_right (2 ^ j) (omega arith) in
        magnitude-none (of_bits binary64 b) (leb (top binary64) b) (q * 2 ^ x) 1074 (mid_is b x (omega arith) (omega arith))
        (λ n l e. over n q j 1074 l (omega arith) (e ∙ ap (λ (y : ℕ). q * 2 ^ y) (sym a)))

pub most_told : (b : ℕ) → exponent b ≡ 1076 → fraction b ≡ 0 → magnitude (of_bits binary64 b) ≡ some most_whole
most_told b e z =
    let q = 4_503_599_627_370_496 + fraction b in
    magnitude-some (of_bits binary64 b) (leb (top binary64) b) most_whole (q * 2 ^ 1075) 1074 (of_bits-fits binary64 b) (mid_is b 1075 e (lit< tt))
    (ap (λ (t : ℕ). (4_503_599_627_370_496 + t) * 2 ^ 1075) (sym z)) (le_refl most_whole)

pub past_told : (b : ℕ) → exponent b ≡ 1076 → 0 < fraction b → magnitude (of_bits binary64 b) ≡ none
past_told b e z =
    let q = 4_503_599_627_370_496 + fraction b in
    magnitude-none (of_bits binary64 b) (leb (top binary64) b) (q * 2 ^ 1075) 1074 (mid_is b 1075 e (lit< tt))
    (λ n l. over n q 1 1074 l (omega arith))

-- from one to the most: the digits moved down, where that drops none
pub some-told : (b n : ℕ) → 1023 ≤ exponent b → exponent b ≤ 1075 → n * 2 ^ (1075 - exponent b) ≡ 4_503_599_627_370_496 + fraction b → magnitude (of_bits binary64 b) ≡ some n
some-told b n h k e =
    let x = exponent b - 1 in
    let i = 1075 - exponent b in
    let q = 4_503_599_627_370_496 + fraction b in
    let m : n * 1 ≤ n * 2 ^ i = mul-le-mul_left n (pow_pos i) in
    magnitude-some (of_bits binary64 b) (leb (top binary64) b) n (q * 2 ^ x) 1074 (of_bits-fits binary64 b) (mid_is b x (omega arith) (omega arith))
    (down_by n i x 1074 (omega arith) ∙ ap (λ (y : ℕ). y * 2 ^ x) e) (omega (arith, m, e))

pub none_told : (b : ℕ) → 1023 ≤ exponent b → exponent b ≤ 1075
    → ((n : ℕ) → n * 2 ^ (1075 - exponent b) ≡ 4_503_599_627_370_496 + fraction b → ⊥) → magnitude (of_bits binary64 b) ≡ none
none_told b h k out =
    let x = exponent b - 1 in
    let i = 1075 - exponent b in
    let q = 4_503_599_627_370_496 + fraction b in
    magnitude-none (of_bits binary64 b) (leb (top binary64) b) (q * 2 ^ x) 1074 (mid_is b x (omega arith) (omega arith))
    (λ n l e. out n (cancel (n * 2 ^ i) q x (sym (down_by n i x 1074 (omega arith)) ∙ e)))

-- ---- moved up by the leading zeros over eleven, a number has 53 digits

pub moved : (n : ℕ) → 0 < n → n < 2 ^ 53 → (11 ≤ count_leading_zeros 64 n) × (count_leading_zeros 64 n - 11 ≤ 52) × (2 ^ 52 ≤ n * 2 ^ (count_leading_zeros 64 n - 11)) × (n * 2 ^ (count_leading_zeros 64 n - 11) < 2 ^ 53)
moved n p h =
    let t = leading_top 64 n p (lt_of_lt_of_le h (lit≤ tt)) in
    let j = t.0 in
    let i = count_leading_zeros 64 n - 11 in
    let e = t.1 in
    let k : j < 53 = lt_of_not-le (λ (g : 53 ≤ j). lt_irrefl n (lt_of_lt_of_le h (le_trans (pow_mono g) t.2))) in
    let a : j + i ≡ 52 = omega (arith, e, k) in
    let b : suc j + i ≡ 53 = omega (arith, a) in
    let lo : 2 ^ 52 ≤ n * 2 ^ i = le_trans (le_of_eq (ap (λ (x : ℕ). 2 ^ x) (sym a) ∙ pow-add 2 j i)) (mul-le-mul_right (2 ^ i) t.2) in
    let hi : n * 2 ^ i < 2 ^ 53 = subst (λ (x : ℕ). n * 2 ^ i < 2 ^ x) b (shl_lt (suc j) i t.3) in
    (omega (arith, e, k), omega (arith, a), lo, hi)

-- ---- a pattern that is a whole number's is the one that is written for it

neg_odd : (d : ℕ) (s : Bool) (q k l : ℕ) → is_negative (odd d s q k l) ≡ s
unfolding odd is_negative
neg_odd d s zero k l = refl
neg_odd d s (suc q) k l = refl

neg_cond : (a b s : Bool) (v : Float) → is_negative v ≡ s → T (not (is_nan (cond a (cond b (inf s) nan) v))) → is_negative (cond a (cond b (inf s) nan) v) ≡ s
unfolding is_negative is_nan
neg_cond true true s v e t = refl
neg_cond true false s v e t = absurd t
neg_cond false b s v e t = e

neg_fields : (s : Bool) (x t : ℕ) → T (not (is_nan (of_fields binary64 s x t))) → is_negative (of_fields binary64 s x t) ≡ s
unfolding of_fields
neg_fields s zero t h = neg_odd 53 s t 0 1074
neg_fields s (suc x) t h = neg_cond (eqb (suc x) 2047) (eqb t 0) s (odd 53 s (4_503_599_627_370_496 + t) x 1074) (neg_odd 53 s (4_503_599_627_370_496 + t) x 1074) h

no_nan : (x : Float) (n : ℕ) → magnitude x ≡ some n → T (not (is_nan x))
unfolding magnitude whole_of up_to is_nan
no_nan nan n e = absurd (nothing n e)
no_nan (inf s) n e = tt
no_nan (fin s m d) n e = tt

pub pattern : (b n : ℕ) → b < 2 ^ 64 → magnitude (of_bits binary64 b) ≡ some n → b ≡ to_bits binary64 (whole_float (leb 0x8000_0000_0000_0000 b) n)
pattern b n h e =
    let x = of_bits binary64 b in
    let t = no_nan x n e in
    let s : is_negative x ≡ leb 0x8000_0000_0000_0000 b =
    ap is_negative (fields-of b) ∙ neg_fields (leb 0x8000_0000_0000_0000 b) (exponent b) (fraction b) (subst (λ (y : Float). T (not (is_nan y))) (fields-of b) t) in
    sym (to_bits-of_bits binary64 b h t) ∙ ap (to_bits binary64) (whole_float_lem x n (of_bits-fits binary64 b) e ∙ ap (λ (r : Bool). whole_float r n) s)

-- and it is no NaN's
pub whole_pattern : (s : Bool) (n : ℕ) → n ≤ most_whole → T (not (nan_bits binary64 (to_bits binary64 (whole_float s n))))
whole_pattern s n h =
    subst (λ (b : Bool). T (not b)) (sym (nan_bits_is binary64 (to_bits binary64 (whole_float s n)) ∙ ap is_nan (bits_back s n h))) (no_nan (whole_float s n) n (whole-magnitude s n h))
