-- Laws of digits. Assumes nothing.
use mathlib.Core.Path.{◌≡◌, refl, sym, ap, ◌∙◌}
use mathlib.Core.Bool.{Bool, true, false, not}
use mathlib.Core.List.{List, [], ◌∷◌, ◌++◌, append_assoc, append-nil}
use Prim.Native.Nat.{ℕ, zero, suc, ◌+◌, ◌-◌, ◌*◌, ◌/◌, ◌%◌, ◌^◌, ◌≤◌, ◌<◌}
use native.Mathlib.Nat.{pow-suc, pow-succ', mul_assoc, mod-eq_of_lt, add-zero, add-suc, div-one, div-div-eq-div-mul, mul-le-mul_right, pow-le-pow_right}
use native.Mathlib.Numerals.{add-one, one-add}
use native.Mathlib.Omega.{arith}
use lib.Dec.{ltb, leb, eqb, lit<, lit≤}
use lib.Arith.{mod-mul}
use lib.ListN.{length, take, drop, replicate, length-append, replicate-append-replicate}
use lib.Seq.{take_at, drop_at}
use borrow.Author.Tests.{lt-ltb, le-leb, ltb-true, ltb-false, leb-true, ne_eqb}
use Rattle.output.specs.Logic.{if, byte}
pub use Rattle.output.proofs.Bools.{never, both}
use Rattle.text_rules.specs.Digits.{pad, count, digits, is_digit, run, behind_digits, number, whole}

-- ---- lists of digits

abbrev pub Digits : List ℕ → Type 0
Digits [] = Unit
Digits (c ∷ t) = (is_digit c ≡ true) × Digits t

abbrev pub NoDigit : List ℕ → Type 0
NoDigit [] = Unit
NoDigit (c ∷ t) = is_digit c ≡ false

pub digit_range : (c : ℕ) → is_digit c ≡ true → (48 ≤ c) × (c ≤ 57)
unfolding is_digit
digit_range c h = let p = both (leb 48 c) (leb c 57) h in (leb-true 48 c p.0, leb-true c 57 p.1)

pub digits_append : (s t : List ℕ) → Digits s → Digits t → Digits (s ++ t)
digits_append [] t hs ht = ht
digits_append (c ∷ s) t hs ht = (hs.0, digits_append s t hs.1 ht)

pub digits-take : (k : ℕ) (s : List ℕ) → Digits s → Digits (take k s)
digits-take zero s h = tt
digits-take (suc k) [] h = tt
digits-take (suc k) (c ∷ s) h = (h.0, digits-take k s h.1)

pub digits-drop : (k : ℕ) (s : List ℕ) → Digits s → Digits (drop k s)
digits-drop zero s h = h
digits-drop (suc k) [] h = tt
digits-drop (suc k) (c ∷ s) h = digits-drop k s h.1

pub digits-zeros : (k : ℕ) → Digits (replicate k 48)
unfolding is_digit
digits-zeros zero = tt
digits-zeros (suc k) = (refl, digits-zeros k)

-- ---- a run of digits at the start of a text

pub run_none : (r : List ℕ) → NoDigit r → run r ≡ []
unfolding run
run_none [] h = refl
run_none (c ∷ r) h = rw h

pub past_none : (r : List ℕ) → NoDigit r → behind_digits r ≡ r
unfolding behind_digits
past_none [] h = refl
past_none (c ∷ r) h = rw h

pub run-digits : (s r : List ℕ) → Digits s → NoDigit r → run (s ++ r) ≡ s
unfolding run
run-digits [] r h n = run_none r n
run-digits (c ∷ s) r h n = rw h.0 (ap (λ (l : List ℕ). c ∷ l) (run-digits s r h.1 n))

pub past_digits : (s r : List ℕ) → Digits s → NoDigit r → behind_digits (s ++ r) ≡ r
unfolding behind_digits
past_digits [] r h n = past_none r n
past_digits (c ∷ s) r h n = rw h.0 (past_digits s r h.1 n)

-- ---- the number that digits are

pub number_append : (a : ℕ) (s t : List ℕ) → number a (s ++ t) ≡ number (number a s) t
unfolding number
number_append a [] t = refl
number_append a (c ∷ s) t = number_append (a * 10 + (c - 48)) s t

pub number-zeros : (k : ℕ) (t : List ℕ) → number 0 (replicate k 48 ++ t) ≡ number 0 t
unfolding number
number-zeros zero t = refl
number-zeros (suc k) t = number-zeros k t

pub number_more : (a : ℕ) (t : List ℕ) → a ≤ number a t
unfolding number
number_more a [] = omega arith
number_more a (c ∷ t) = omega (arith, number_more (a * 10 + (c - 48)) t)

pub pow_pos10 : (w : ℕ) → 0 < 10 ^ w
pow_pos10 zero = lit< tt
pow_pos10 (suc w) = let p : 0 < 10 ^ w = pow_pos10 w in rw (pow-suc 10 w) (omega arith)

-- w digits of n, behind those whose number is a: one law for every width
pub number-pad : (w n a : ℕ) → number a (pad w n) ≡ a * 10 ^ w + n % 10 ^ w
unfolding pad number
number-pad zero n a = omega arith
number-pad (suc w) n a =
    let p = 10 ^ w in
    let m : n % (p * 10) ≡ (n / 10 % p) * 10 + n % 10 = mod-mul n (pow_pos10 w) (lit< tt) in
    let d : 48 + n % 10 - 48 ≡ n % 10 = omega arith in
    number_append a (pad w (n / 10)) ((48 + n % 10) ∷ [])
    ∙ rw (number-pad w (n / 10) a, d, pow-suc 10 w) (omega (arith, m, sym (mul_assoc a p 10)))

-- ---- plain decimal

pub length-pad : (w n : ℕ) → length (pad w n) ≡ w
unfolding pad
length-pad zero n = refl
length-pad (suc w) n = length-append (pad w (n / 10)) ((48 + n % 10) ∷ []) ∙ add-one (length (pad w (n / 10))) ∙ ap suc (length-pad w (n / 10))

pub digits-pad : (w n : ℕ) → Digits (pad w n)
unfolding pad is_digit
digits-pad zero n = tt
digits-pad (suc w) n =
    let lo : 48 ≤ 48 + n % 10 = omega arith in
    let hi : 48 + n % 10 ≤ 57 = omega arith in
    digits_append (pad w (n / 10)) ((48 + n % 10) ∷ []) (digits-pad w (n / 10)) (simp (le-leb _ _ lo, le-leb _ _ hi), tt)

pub digits-digits : (n : ℕ) → Digits (digits n)
unfolding digits
digits-digits n = digits-pad (count 19 n) n

-- at most as many digits as the powers of ten say
pub count_most : (k j n : ℕ) → n < 10 ^ suc j → count k n ≤ suc j
unfolding count
count_most zero j n h = omega arith
count_most (suc k) j n h = go (ltb n 10) refl j h (λ i. count_most k i (n / 10))
  where
    go : (t : Bool) → ltb n 10 ≡ t → (i : ℕ) → n < 10 ^ suc i → ((i : ℕ) → n / 10 < 10 ^ suc i → count k (n / 10) ≤ suc i) → if t 1 (suc (count k (n / 10))) ≤ suc i
    go true e i b ih = omega arith
    go false e zero b ih = let bad : ⊥ = omega (arith, ltb-false n 10 e) in absurd bad
    go false e (suc i) b ih =
        let b10 : n < 10 ^ suc i * 10 = rw (pow-suc 10 (suc i)) at b in
        let q : n / 10 < 10 ^ suc i = omega arith in
        omega (arith, ih i q)

pub count-some : (k n : ℕ) → 1 ≤ count k n
unfolding count
count-some zero n = lit≤ tt
count-some (suc k) n = go (ltb n 10)
  where
    go : (t : Bool) → 1 ≤ if t 1 (suc (count k (n / 10)))
    go true = lit≤ tt
    go false = omega arith

-- the number of digits is enough
pub count_enough : (k n : ℕ) → n < 10 ^ suc k → n < 10 ^ count k n
unfolding count
count_enough zero n h = h
count_enough (suc k) n h = go (ltb n 10) refl (count_enough k (n / 10))
  where
    go : (t : Bool) → ltb n 10 ≡ t → (n / 10 < 10 ^ suc k → n / 10 < 10 ^ count k (n / 10)) → n < 10 ^ if t 1 (suc (count k (n / 10)))
    go true e ih = ltb-true n 10 e
    go false e ih =
        let h10 : n < 10 ^ suc k * 10 = rw (pow-suc 10 (suc k)) at h in
        let q : n / 10 < 10 ^ count k (n / 10) = ih (omega arith) in
        rw (pow-suc 10 (count k (n / 10))) (omega arith)

pub number_digits : (n : ℕ) → n < 2 ^ 64 → number 0 (digits n) ≡ n
unfolding digits
number_digits n h =
    let m : n % 10 ^ count 19 n ≡ n = mod-eq_of_lt (count_enough 19 n (omega arith)) in
    number-pad (count 19 n) n 0 ∙ omega arith

pub length_digits : (n : ℕ) → length (digits n) ≡ count 19 n
unfolding digits
length_digits n = length-pad (count 19 n) n

pub digits-some : (n : ℕ) → 1 ≤ length (digits n)
digits-some n = omega (arith, length_digits n, count-some 19 n)

pub digits_most : (j n : ℕ) → n < 10 ^ suc j → length (digits n) ≤ suc j
digits_most j n h = omega (arith, length_digits n, count_most 19 j n h)

-- the first digit of a number over 0 is not 0
one_digit : (n : ℕ) → 0 < n → n < 10 → eqb (48 + n % 10) 48 ≡ false
one_digit n p h = ne_eqb (48 + n % 10) 48 (λ (e : 48 + n % 10 ≡ 48). omega arith)

abbrev Led : List ℕ → Type 0
Led s = (c : ℕ) × (t : List ℕ) × (s ≡ c ∷ t) × (eqb c 48 ≡ false)

lead : (k n : ℕ) → 0 < n → n < 10 ^ suc k → Led (pad (count k n) n)
unfolding count pad
lead zero n p h = (48 + n % 10, [], refl, one_digit n p (omega arith))
lead (suc k) n p h = go (ltb n 10) refl (lead k (n / 10))
  where
    go : (t : Bool) → ltb n 10 ≡ t → (0 < n / 10 → n / 10 < 10 ^ suc k → Led (pad (count k (n / 10)) (n / 10))) → Led (pad (if t 1 (suc (count k (n / 10)))) n)
    go true e ih = (48 + n % 10, [], refl, one_digit n p (ltb-true n 10 e))
    go false e ih =
        let g = ltb-false n 10 e in
        let h10 : n < 10 ^ suc k * 10 = rw (pow-suc 10 (suc k)) at h in
        let i = ih (omega arith) (omega arith) in
        (i.0, i.1 ++ ((48 + n % 10) ∷ []), ap (λ (l : List ℕ). l ++ ((48 + n % 10) ∷ [])) i.2, i.3)

whole-lead : (c : ℕ) (t : List ℕ) → eqb c 48 ≡ false → whole (c ∷ t) ≡ true
unfolding whole
whole-lead c [] h = refl
whole-lead c (d ∷ t) h = cc

pub whole-digits : (n : ℕ) → n < 2 ^ 64 → whole (digits n) ≡ true
unfolding digits count pad whole
whole-digits zero h = refl
whole-digits (suc n) h = let i = lead 19 (suc n) (omega arith) (omega arith) in ap whole i.2 ∙ whole-lead i.0 i.1 i.3

pub whole_take : (k : ℕ) (s : List ℕ) → 0 < k → whole s ≡ true → whole (take k s) ≡ true
unfolding whole
whole_take zero s p h = let bad : ⊥ = omega arith in absurd bad
whole_take (suc k) [] p h = h
whole_take (suc zero) (c ∷ s) p h = refl
whole_take (suc (suc k)) (c ∷ []) p h = refl
whole_take (suc (suc k)) (c ∷ d ∷ s) p h = h

-- zero padding, over the width: as many zeros as are missing, and plain decimal

pub pad-zero : (w : ℕ) → pad w 0 ≡ replicate w (byte "0")
unfolding pad
pad-zero zero = refl
pad-zero (suc w) = rw (pad-zero w) (replicate-append-replicate w 1 (byte "0") ∙ ap (λ (k : ℕ). replicate k (byte "0")) (add-one w))

-- ---- what the code of digits needs

pub last_one : (k m : ℕ) → m < 10 → count k m ≡ 1
unfolding count
last_one zero m h = refl
last_one (suc k) m h = simp (lt-ltb m 10 h)

-- the higher digits, and the lower ones
pub pad-split : (a b n : ℕ) → pad (a + b) n ≡ pad a (n / 10 ^ b) ++ pad b n
unfolding pad
pad-split a zero n = rw append-nil (ap (λ (k : ℕ). pad k n) (add-zero a) ∙ ap (pad a) (sym (div-one n)))
pad-split a (suc b) n =
    ap (λ (k : ℕ). pad k n) (add-suc a b)
    ∙ rw (pad-split a b (n / 10), div-div-eq-div-mul n 10 (10 ^ b), ← pow-succ' 10 b) (append_assoc (pad a (n / 10 ^ suc b)) (pad b (n / 10)) ((48 + n % 10) ∷ []))

pub pad-first : (k n : ℕ) → pad (suc k) n ≡ (48 + n / 10 ^ k % 10) ∷ pad k n
unfolding pad
pad-first k n = ap (λ (j : ℕ). pad j n) (sym (one-add k)) ∙ pad-split 1 k n

pub count_le : (n : ℕ) → n < 2 ^ 64 → count 19 n ≤ 20
count_le n h = count_most 19 19 n (omega arith)

pub digits-take-pad : (k l n : ℕ) → k + l ≡ count 19 n → take k (digits n) ≡ pad k (n / 10 ^ l)
unfolding digits
digits-take-pad k l n h = rw (sym h, pad-split k l n) (take_at (pad k (n / 10 ^ l)) (pad l n) k (length-pad k (n / 10 ^ l)))

pub digits-drop-pad : (k l n : ℕ) → k + l ≡ count 19 n → drop k (digits n) ≡ pad l n
unfolding digits
digits-drop-pad k l n h = rw (sym h, pad-split k l n) (drop_at (pad k (n / 10 ^ l)) (pad l n) k (length-pad k (n / 10 ^ l)))

-- ---- what the code of numerals needs

pub digits-run : (t : List ℕ) → Digits (run t)
unfolding run
digits-run [] = tt
digits-run (c ∷ t) = go (is_digit c) refl (digits-run t)
  where
    go : (b : Bool) → is_digit c ≡ b → Digits (run t) → Digits (if b (c ∷ run t) [])
    go true e h = (e, h)
    go false e h = tt

number_bound : (a : ℕ) (s : List ℕ) → Digits s → number a s < (a + 1) * 10 ^ length s
unfolding number
number_bound a [] h = omega arith
number_bound a (c ∷ s) h =
    let p = 10 ^ length s in
    let d = digit_range c h.0 in
    let i = number_bound (a * 10 + (c - 48)) s h.1 in
    let l : (a * 10 + (c - 48) + 1) * p ≤ (a + 1) * 10 * p = mul-le-mul_right p (omega arith) in
    rw (pow-succ' 10 (length s), sym (mul_assoc (a + 1) 10 p)) (omega arith)

-- ten digits are no more than ten digits
pub number_small : (t : List ℕ) → length (run t) ≤ 10 → number 0 (run t) < 10 ^ 10
number_small t h =
    let p : 10 ^ length (run t) ≤ 10 ^ 10 = pow-le-pow_right (lit< tt) h in
    omega (arith, number_bound 0 (run t) (digits-run t))

pub whole-none : (s : List ℕ) → length s ≡ 0 → whole s ≡ false
unfolding whole
whole-none [] h = refl
whole-none (c ∷ s) h = let bad : ⊥ = omega arith in absurd bad

pub whole_one : (s : List ℕ) → length s ≡ 1 → whole s ≡ true
unfolding whole
whole_one [] h = let bad : ⊥ = omega arith in absurd bad
whole_one (c ∷ []) h = refl
whole_one (c ∷ d ∷ s) h = let bad : ⊥ = omega arith in absurd bad

-- of two digits or more the first decides
pub whole_run : (c : ℕ) (t : List ℕ) → 2 ≤ length (run (c ∷ t)) → whole (run (c ∷ t)) ≡ not (eqb c 48)
unfolding run whole
whole_run c t h = go (is_digit c) (run t) h
  where
    go : (b : Bool) (s : List ℕ) → 2 ≤ length (if b (c ∷ s) []) → whole (if b (c ∷ s) []) ≡ not (eqb c 48)
    go false s l = let bad : ⊥ = omega arith in absurd bad
    go true [] l = let bad : ⊥ = omega arith in absurd bad
    go true (d ∷ s) l = refl
