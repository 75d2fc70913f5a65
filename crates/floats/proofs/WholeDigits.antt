-- Digits, the number that they are, and trailing zeros. Assumes nothing.
use mathlib.Core.Path.{◌≡◌, refl, sym, ap, ◌∙◌}
use mathlib.Core.Bool.{Bool, true, false, not, ◌&&◌}
use mathlib.Core.List.{List, [], ◌∷◌, ◌++◌, append_assoc, append-nil}
use Prim.Native.Nat.{ℕ, zero, suc, ◌+◌, ◌-◌, ◌*◌, ◌/◌, ◌%◌, ◌^◌, ◌≤◌, ◌<◌}
use native.Mathlib.Nat.{pow-suc, pow-succ', mul_assoc, mod-lt, pow-le-pow_right, mul-le-mul_left, mul-le-mul_right}
use native.Mathlib.Decide.{dec_le}
use native.Mathlib.Omega.{arith}
use lib.Dec.{eqb, lit<}
use lib.ListN.{length, replicate, length-append, length-replicate}
use borrow.Author.Tests.{ne_eqb, eqb-false}
use Rattle.output.specs.Logic.{byte}
use Rattle.text_rules.specs.Digits.{pad, count, digits, is_digit, number, whole as unpadded}
use Rattle.text_rules.specs.Texts.{empty}
use Rattle.text_rules.proofs.DigitLaws.{Digits, never, digits_append, digits-zeros, digit_range, number_append, number-pad, number_digits, pow_pos10, digits-digits, count-some, whole-digits}
use Rattle.text_rules.proofs.DigitCode.{count-is}
use Rattle.floats.specs.Whole.{significant}

-- ---- digits are those of their number

-- the digits s behind the k lowest of a
pad-number : (k a : ℕ) (s : List ℕ) → Digits s → pad (k + length s) (number a s) ≡ pad k a ++ s
unfolding number pad
pad-number k a [] h = let z : k + 0 ≡ k = omega arith in rw (z, append-nil)
pad-number k a (c ∷ s) h =
    let d = digit_range c h.0 in
    let n = a * 10 + (c - 48) in
    let l : k + suc (length s) ≡ suc k + length s = omega arith in
    let q : n / 10 ≡ a = omega arith in
    let m : 48 + n % 10 ≡ c = omega arith in
    ap (λ (j : ℕ). pad j (number n s)) l
    ∙ pad-number (suc k) n s h.1
    ∙ rw (q, m) (append_assoc (pad k a) (c ∷ []) s)

number_least : (a : ℕ) (s : List ℕ) → a * 10 ^ length s ≤ number a s
unfolding number
number_least a [] = omega arith
number_least a (c ∷ s) =
    let p = 10 ^ length s in
    let i = number_least (a * 10 + (c - 48)) s in
    let l : a * 10 * p ≤ (a * 10 + (c - 48)) * p = mul-le-mul_right p (omega arith) in
    rw (pow-succ' 10 (length s), sym (mul_assoc a 10 p)) (omega arith)

-- as many digits as there are
pad-own : (s : List ℕ) → Digits s → pad (length s) (number 0 s) ≡ s
unfolding pad
pad-own s h = let z : 0 + length s ≡ length s = omega arith in rw z at (pad-number 0 0 s h)

-- less than ten to the number of digits
number-below : (s : List ℕ) → Digits s → number 0 s < 10 ^ length s
number-below s h =
    let p = 10 ^ length s in
    let z : 0 * p + number 0 s % p ≡ number 0 s % p = omega arith in
    let e : number 0 s ≡ number 0 s % p = ap (number 0) (sym (pad-own s h)) ∙ number-pad (length s) (number 0 s) 0 ∙ z in
    let b : number 0 s % p < p = mod-lt (number 0 s) (pow_pos10 (length s)) in
    omega arith

-- the first digit is not 0
abbrev pub Leads : List ℕ → Type 0
Leads [] = ⊥
Leads (c ∷ t) = eqb c (byte "0") ≡ false

leads-append : (s t : List ℕ) → Leads s → Leads (s ++ t)
leads-append [] t h = absurd h
leads-append (c ∷ s) t h = h

told : (b : Bool) → not b ≡ true → b ≡ false
told true h = never (sym h)
told false h = refl

leads-told : (s : List ℕ) → unpadded s ≡ true → 0 < number 0 s → Leads s
unfolding unpadded number
leads-told [] w p = let bad : ⊥ = omega arith in absurd bad
leads-told (c ∷ []) w p = ne_eqb c 48 (λ (e : c ≡ 48). omega arith)
leads-told (c ∷ d ∷ t) w p = told (eqb c 48) w

pub leads-digits : (m : ℕ) → 0 < m → m < 2 ^ 64 → Leads (digits m)
leads-digits m p h = leads-told (digits m) (whole-digits m h) (omega (arith, number_digits m h))

-- a digit that is no 0
pub over_zero : (c : ℕ) → is_digit c ≡ true → eqb c (byte "0") ≡ false → 1 ≤ c - 48
over_zero c d l = omega (arith, digit_range c d, eqb-false c 48 l)

-- the number of the first digit, as it is joined to none
pub first-joined : (c : ℕ) → c - 48 ≡ 0 * 10 + (c - 48)
first-joined c = omega arith

pub lead_least : (c : ℕ) (t : List ℕ) → is_digit c ≡ true → eqb c (byte "0") ≡ false → 10 ^ length t ≤ number 0 (c ∷ t)
unfolding number
lead_least c t d l =
    let z = first-joined c in
    let p = 10 ^ length t in
    let i = number_least (c - 48) t in
    let o : 1 * p ≤ (c - 48) * p = mul-le-mul_right p (over_zero c d l) in
    rw (sym z) (omega arith)

only_zero : (s : List ℕ) → Digits s → unpadded s ≡ true → number 0 s ≡ 0 → s ≡ digits 0
unfolding unpadded number digits count pad
only_zero [] d w h = never (sym w)
only_zero (c ∷ []) d w h = let e : c ≡ 48 = omega (arith, digit_range c d.0) in ap (λ (x : ℕ). x ∷ []) e
only_zero (c ∷ x ∷ t) d w h =
    let l = lead_least c (x ∷ t) d.0 (told (eqb c 48) w) in
    let bad : ⊥ = omega (arith, pow_pos10 (length (x ∷ t))) in absurd bad

short : (j n : ℕ) → 10 ^ j ≤ n → n < 2 ^ 64 → j < 20
short j n l h = go (dec_le 20 j)
  where
    go : Dec (20 ≤ j) → j < 20
    go (no g) = omega arith
    go (yes g) =
        let p : 10 ^ 20 ≤ 10 ^ j = pow-le-pow_right (lit< tt) g in
        let bad : ⊥ = omega arith in absurd bad

pub digits_number : (s : List ℕ) → Digits s → Leads s → number 0 s < 2 ^ 64 → digits (number 0 s) ≡ s
unfolding digits
digits_number [] d l h = absurd l
digits_number (c ∷ t) d l h =
    let low = lead_least c t d.0 l in
    rw (count-is (length t) (number 0 (c ∷ t)) (short (length t) (number 0 (c ∷ t)) low h) low (number-below (c ∷ t) d)) (pad-own (c ∷ t) d)

-- 0, or digits without leading zero
pub digits-plain : (s : List ℕ) → Digits s → unpadded s ≡ true → number 0 s < 2 ^ 64 → digits (number 0 s) ≡ s
digits-plain s d w h = go (dec_le 1 (number 0 s))
  where
    go : Dec (1 ≤ number 0 s) → digits (number 0 s) ≡ s
    go (yes p) = digits_number s d (leads-told s w p) h
    go (no p) = ap digits zero_is ∙ sym (only_zero s d w zero_is)
      where
        zero_is : number 0 s ≡ 0
        zero_is = omega arith

-- ---- trailing zeros

pub number-zeros : (a k : ℕ) → number a (replicate k (byte "0")) ≡ a * 10 ^ k
unfolding number
number-zeros a zero = omega arith
number-zeros a (suc k) =
    let z : a * 10 + 0 ≡ a * 10 = omega arith in
    ap (λ (x : ℕ). number x (replicate k (byte "0"))) z ∙ number-zeros (a * 10) k ∙ rw (pow-succ' 10 k) (mul_assoc a 10 (10 ^ k))

-- m times ten to the k is m below one, if m is
pub factor_below : (m k : ℕ) → m ≤ m * 10 ^ k
factor_below m k = let p : m * 1 ≤ m * 10 ^ k = mul-le-mul_left m (pow_pos10 k) in omega arith

pub digits-shift : (m k : ℕ) → 0 < m → m * 10 ^ k < 2 ^ 64 → digits (m * 10 ^ k) ≡ digits m ++ replicate k (byte "0")
digits-shift m k p h =
    let h64 : m < 2 ^ 64 = omega (arith, factor_below m k) in
    let s = digits m ++ replicate k (byte "0") in
    let n : number 0 s ≡ m * 10 ^ k = number_append 0 (digits m) (replicate k (byte "0")) ∙ rw (number_digits m h64) (number-zeros m k) in
    sym (ap digits n)
    ∙ digits_number s (digits_append (digits m) (replicate k (byte "0")) (digits-digits m) (digits-zeros k)) (leads-append (digits m) (replicate k (byte "0")) (leads-digits m p h64)) (rw n h)

pub length_shift : (m k : ℕ) → 0 < m → m * 10 ^ k < 2 ^ 64 → length (digits (m * 10 ^ k)) ≡ length (digits m) + k
length_shift m k p h = ap length (digits-shift m k p h) ∙ length-append (digits m) (replicate k (byte "0")) ∙ ap (λ (j : ℕ). length (digits m) + j) (length-replicate k (byte "0"))

significant-zeros : (k : ℕ) → significant (replicate k (byte "0")) ≡ []
unfolding significant
significant-zeros zero = refl
significant-zeros (suc k) = rw (significant-zeros k)

significant-behind : (s : List ℕ) (k : ℕ) → significant (s ++ replicate k (byte "0")) ≡ significant s
unfolding significant
significant-behind [] k = significant-zeros k
significant-behind (c ∷ s) k = rw (significant-behind s k)

pub neither : (b : Bool) → b && false ≡ false
neither true = refl
neither false = refl

-- a last digit that is no 0 keeps all
significant-last : (s : List ℕ) (c : ℕ) → eqb c (byte "0") ≡ false → significant (s ++ (c ∷ [])) ≡ s ++ (c ∷ [])
unfolding significant
significant-last [] c h = rw h
significant-last (x ∷ s) c h = rw (significant-last s c h, some-last s, neither (eqb x (byte "0")))
  where
    some-last : (s : List ℕ) → empty (s ++ (c ∷ [])) ≡ false
    some-last [] = refl
    some-last (y ∷ s) = refl

pub significant-digits : (m : ℕ) → 0 < m % 10 → significant (digits m) ≡ digits m
unfolding digits
significant-digits m h = go (count 19 m) (count-some 19 m)
  where
    go : (w : ℕ) → 1 ≤ w → significant (pad w m) ≡ pad w m
    go zero l = let bad : ⊥ = omega arith in absurd bad
    go (suc w) l = unfold pad in significant-last (pad w (m / 10)) (48 + m % 10) (ne_eqb (48 + m % 10) 48 (λ (e : 48 + m % 10 ≡ 48). omega arith))

pub significant-shift : (m k : ℕ) → 0 < m → m * 10 ^ k < 2 ^ 64 → significant (digits (m * 10 ^ k)) ≡ significant (digits m)
significant-shift m k p h = ap significant (digits-shift m k p h) ∙ significant-behind (digits m) k

-- every number over 0 is one without trailing zeros, times a power of ten
pub record Factors (n : ℕ) : Type 0 where
  pub base : ℕ
  pub zeros : ℕ
  pub is : base * 10 ^ zeros ≡ n
  pub last : 0 < base % 10

one_more : (b z q n : ℕ) → b * 10 ^ z ≡ q → q * 10 ≡ n → b * 10 ^ suc z ≡ n
one_more b z q n h e = rw (pow-suc 10 z) (sym (mul_assoc b (10 ^ z) 10) ∙ ap (λ (x : ℕ). x * 10) h ∙ e)

pub factors : (j n : ℕ) → 0 < n → n < 10 ^ j → Factors n
factors zero n p h = let bad : ⊥ = omega arith in absurd bad
factors (suc j) n p h = go (dec_le 1 (n % 10)) (factors j (n / 10))
  where
    go : Dec (1 ≤ n % 10) → (0 < n / 10 → n / 10 < 10 ^ j → Factors (n / 10)) → Factors n
    go (yes l) ih = record { base = n; zeros = 0; is = omega arith; last = l }
    go (no l) ih =
        let b : n < 10 ^ j * 10 = rw (pow-suc 10 j) at h in
        let f = ih (omega arith) (omega arith) in
        record {
          base = f.base;
          zeros = suc f.zeros;
          is = one_more f.base f.zeros (n / 10) n f.is (omega arith);
          last = f.last;
        }
