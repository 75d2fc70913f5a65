-- What the code of digits cites: counts by powers of ten, and digits in blocks. Assumes nothing.
use mathlib.Core.Path.{◌≡◌, refl, sym, ap, ◌∙◌}
use mathlib.Core.List.{List, ◌++◌}
use Prim.Native.Nat.{ℕ, zero, suc, ◌+◌, ◌-◌, ◌*◌, ◌/◌, ◌%◌, ◌^◌, ◌≤◌, ◌<◌}
use native.Mathlib.Nat.{le_of_lt, pow-suc, pow-le-pow_right, div-eq_of_lt, div-le_self, le-div_iff_mul-le, div-lt_iff_lt-mul}
use native.Mathlib.Decide.{dec_le}
use native.Mathlib.Omega.{arith}
use lib.Dec.{lit<}
use lib.Arith.{mod-mul}
use lib.Pow.{pow-add}
use lib.ListN.{length, replicate}
use lib.Seq.{sets}
use Rattle.output.specs.Logic.{byte}
use Rattle.output.proofs.Laws.{sets-append}
use Rattle.text_rules.specs.Digits.{pad, count, digits, zero_padded}
use Rattle.text_rules.specs.DigitSteps.{Led}
use Rattle.text_rules.proofs.DigitLaws.{pow_pos10, length-pad, pad-split, pad-zero, count_most, count-some, count_enough, length_digits}

-- the w lowest digits are those of the remainder
pub pad_mod : (w n : ℕ) → pad w (n % 10 ^ w) ≡ pad w n
unfolding pad
pad_mod zero n = refl
pad_mod (suc w) n =
    let p = 10 ^ w in
    let m : n % (p * 10) ≡ (n / 10 % p) * 10 + n % 10 = mod-mul n (pow_pos10 w) (lit< tt) in
    let hi : n % (p * 10) / 10 ≡ n / 10 % p = omega arith in
    let lo : n % (p * 10) % 10 ≡ n % 10 = omega arith in
    rw (pow-suc 10 w, hi, lo, pad_mod w (n / 10))

-- two blocks of digits, one behind the other
pub sets-blocks : (l : List ℕ) (p a b n : ℕ) → sets (sets l p (pad a (n / 10 ^ b))) (p + a) (pad b (n % 10 ^ b)) ≡ sets l p (pad (a + b) n)
sets-blocks l p a b n =
    ap (λ (k : ℕ). sets (sets l p (pad a (n / 10 ^ b))) (p + k) (pad b (n % 10 ^ b))) (sym (length-pad a (n / 10 ^ b)))
    ∙ sets-append l p (pad a (n / 10 ^ b)) (pad b (n % 10 ^ b))
    ∙ ap (λ (s : List ℕ). sets l p (pad a (n / 10 ^ b) ++ s)) (pad_mod b n)
    ∙ ap (sets l p) (sym (pad-split a b n))

-- ---- counts

pub count-is : (j n : ℕ) → j < 20 → 10 ^ j ≤ n → n < 10 ^ suc j → count 19 n ≡ suc j
count-is j n b l h =
    let m = count_most 19 j n h in
    let b20 : suc j ≤ 20 = omega arith in
    let t : 10 ^ suc j ≤ 10 ^ 20 = pow-le-pow_right (lit< tt) b20 in
    let e = count_enough 19 n (omega arith) in
    go (dec_le (count 19 n) j) m e
  where
    go : Dec (count 19 n ≤ j) → count 19 n ≤ suc j → n < 10 ^ count 19 n → count 19 n ≡ suc j
    go (yes d) m e = let q : 10 ^ count 19 n ≤ 10 ^ j = pow-le-pow_right (lit< tt) d in let bad : ⊥ = omega arith in absurd bad
    go (no d) m e = omega arith

-- a number has its first digit
count_low : (n : ℕ) → 0 < n → n < 10 ^ 20 → 10 ^ (count 19 n - 1) ≤ n
count_low n p h = go (dec_le (10 ^ (count 19 n - 1)) n)
  where
    go : Dec (10 ^ (count 19 n - 1) ≤ n) → 10 ^ (count 19 n - 1) ≤ n
    go (yes d) = d
    go (no d) = one (count 19 n) refl (count-some 19 n)
      where
        one : (c : ℕ) → count 19 n ≡ c → 1 ≤ c → 10 ^ (count 19 n - 1) ≤ n
        one zero e s = let bad : ⊥ = omega arith in absurd bad
        one (suc zero) e s = let z : count 19 n - 1 ≡ 0 = omega arith in rw z (omega arith)
        one (suc (suc c)) e s =
            let z : count 19 n - 1 ≡ suc c = omega arith in
            let under : n < 10 ^ (count 19 n - 1) = omega arith in
            let l : n < 10 ^ suc c = rw z at under in
            let bad : ⊥ = omega (arith, count_most 19 c n l) in absurd bad

-- b digits more, where there are b more
pub count-blocks : (b n : ℕ) → b ≤ 16 → 10 ^ b ≤ n → n < 2 ^ 64 → count 19 n ≡ count 19 (n / 10 ^ b) + b
count-blocks b n s l h =
    let p = 10 ^ b in
    let m = n / p in
    let q : 0 < p = pow_pos10 b in
    let m1 : 1 ≤ m = (le-div_iff_mul-le q).1 (omega arith) in
    let mn : m ≤ n = div-le_self n p in
    let low : 10 ^ (count 19 m - 1) ≤ m = count_low m m1 (omega arith) in
    let top : m < 10 ^ count 19 m = count_enough 19 m (omega arith) in
    let some : 1 ≤ count 19 m = count-some 19 m in
    let j = count 19 m - 1 + b in
    let lo : 10 ^ j ≤ n = rw (pow-add 10 (count 19 m - 1) b) ((le-div_iff_mul-le q).0 low) in
    let js : suc j ≡ count 19 m + b = omega arith in
    let hi : n < 10 ^ suc j = rw (js, pow-add 10 (count 19 m) b) ((div-lt_iff_lt-mul q).0 top) in
    let small : j < 20 = omega (arith, below j lo h) in
    count-is j n small lo hi ∙ js
  where
    below : (j : ℕ) → 10 ^ j ≤ n → n < 2 ^ 64 → j < 20
    below j l h = go (dec_le 20 j)
      where
        go : Dec (20 ≤ j) → j < 20
        go (yes d) = let t : 10 ^ 20 ≤ 10 ^ j = pow-le-pow_right (lit< tt) d in let bad : ⊥ = omega arith in absurd bad
        go (no d) = omega arith

-- ---- digits where there is room

-- a short number
pub led_short : {a b : List ℕ} {p n : ℕ} (w : ℕ) → b ≡ sets a p (pad w n) → count 19 n ≡ w → Led a b p (p + w) n
unfolding digits
led_short {a} {b} {p} {n} w h e = record { bytes = h ∙ ap (λ (k : ℕ). sets a p (pad k n)) (sym e); end = ap (λ (k : ℕ). p + k) (sym e) }

-- k digits behind the higher ones
pub led_more : {a b c : List ℕ} {p r : ℕ} (k n : ℕ) → k ≤ 16 → 10 ^ k ≤ n → n < 2 ^ 64 → Led a b p r (n / 10 ^ k) → c ≡ sets b r (pad k (n % 10 ^ k)) → Led a c p (r + k) n
unfolding digits
led_more {a} {b} {c} {p} {r} k n s l h led e =
    let m = count 19 (n / 10 ^ k) in
    let cnt = count-blocks k n s l h in
    record {
      bytes =
          e
          ∙ ap (λ (x : List ℕ). sets x r (pad k (n % 10 ^ k))) led.bytes
          ∙ ap (λ (i : ℕ). sets (sets a p (pad m (n / 10 ^ k))) i (pad k (n % 10 ^ k))) led.end
          ∙ sets-blocks a p m k n
          ∙ ap (λ (w : ℕ). sets a p (pad w n)) (sym cnt);
      end = omega (arith, led.end);
    }

-- zero padding, over the width: plain decimal behind the zeros that are missing
pub zero-padded : (w n : ℕ) → n < 2 ^ 64 → n < 10 ^ w → 1 ≤ w → zero_padded w n ≡ pad w n
unfolding zero_padded digits
zero-padded w n h b s =
    let c = count 19 n in
    let cw : c ≤ w = most w s b in
    let e : w - length (pad c n) + c ≡ w = omega (arith, length-pad c n) in
    let z : n / 10 ^ c ≡ 0 = div-eq_of_lt (count_enough 19 n (omega arith)) in
    sym (ap (λ (k : ℕ). pad k n) (sym e) ∙ pad-split (w - length (pad c n)) c n ∙ ap (λ (k : ℕ). pad (w - length (pad c n)) k ++ pad c n) z ∙ ap (λ (s : List ℕ). s ++ pad c n) (pad-zero (w - length (pad c n))))
  where
    most : (w : ℕ) → 1 ≤ w → n < 10 ^ w → count 19 n ≤ w
    most zero s b = let bad : ⊥ = omega arith in absurd bad
    most (suc j) s b = count_most 19 j n b

-- a number that has the digits needs no zeros
pub zero-padded_long : (w n : ℕ) → w ≤ count 19 n → zero_padded w n ≡ digits n
unfolding zero_padded
zero-padded_long w n h =
    let z : w - length (digits n) ≡ 0 = omega (arith, length_digits n) in
    ap (λ (k : ℕ). replicate k (byte "0") ++ digits n) z

pub zero-padded_short : (w n : ℕ) → n < 2 ^ 64 → count 19 n < w → zero_padded w n ≡ pad w n
zero-padded_short w n h l =
    let e = count_enough 19 n (omega arith) in
    let p : 10 ^ count 19 n ≤ 10 ^ w = pow-le-pow_right (lit< tt) (le_of_lt l) in
    zero-padded w n h (omega arith) (omega arith)
