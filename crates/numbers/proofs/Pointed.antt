-- A point inside digits, by words of eight bytes. Assumes nothing.
use mathlib.Core.Path.{◌≡◌, sym, ap, ◌∙◌}
use mathlib.Core.List.{List, ◌∷◌, ◌++◌}
use Prim.Native.Nat.{ℕ, ◌+◌, ◌-◌, ◌*◌, ◌/◌, ◌%◌, ◌^◌, ◌≤◌, ◌<◌}
use native.Mathlib.Nat.{pow-le-pow_right}
use native.Mathlib.Decide.{dec_le}
use native.Mathlib.Omega.{arith}
use lib.Dec.{lit<}
use lib.ListN.{length, take, drop, set, length-append, length-drop}
use lib.Seq.{sets, length-take-le, take-append-le}
use Rattle.output.specs.Logic.{byte}
use Rattle.output.specs.Wrote.{le_bytes}
use Rattle.output.proofs.Words.{take-le}
use Rattle.text_rules.specs.Digits.{pad, count, digits}
use Rattle.text_rules.proofs.DigitLaws.{count_most, count_enough, length-pad, length_digits, pad-split, digits-drop-pad}
use Rattle.text_rules.proofs.DigitCode.{pad_mod, count-blocks}
use Rattle.text_rules.proofs.DigitWords.{shift, last_digits, ahead_of, ahead_more}
use Rattle.numbers.specs.Decimal.{pointed}
use Rattle.numbers.proofs.Stores.{sets-between, sets_onward}

-- ---- a number by its count of digits

pub under-8 : (n : ℕ) → n < 2 ^ 64 → count 19 n ≤ 8 → n < 100000000
under-8 n h c = let p : 10 ^ count 19 n ≤ 10 ^ 8 = pow-le-pow_right (lit< tt) c in omega (arith, count_enough 19 n (omega arith))

pub under-16 : (n : ℕ) → n < 2 ^ 64 → count 19 n ≤ 16 → n / 100000000 < 100000000
under-16 n h c = let p : 10 ^ count 19 n ≤ 10 ^ 16 = pow-le-pow_right (lit< tt) c in omega (arith, count_enough 19 n (omega arith))

over-8 : (n : ℕ) → 8 < count 19 n → 100000000 ≤ n
over-8 n c = go (dec_le 100000000 n)
  where
    go : Dec (100000000 ≤ n) → 100000000 ≤ n
    go (yes d) = d
    go (no d) = let bad : ⊥ = omega (arith, count_most 19 7 n (omega arith)) in absurd bad

-- ---- the point

pub length-pointed : (n w k : ℕ) → w ≡ count 19 n → k ≤ w → length (pointed (digits n) k) ≡ w + 1
unfolding pointed
length-pointed n w k e h =
    let l : length (digits n) ≡ w = length_digits n ∙ sym e in
    length-append (take k (digits n)) (byte "." ∷ drop k (digits n)) ∙ omega (arith, length-take-le k (digits n) (omega arith), length-drop k (digits n))

-- the digits one place on, the first k in their own place, and the point
between : (l a b : List ℕ) (p n k : ℕ) (s : List ℕ) → k ≤ count 19 n → a ≡ sets l (p + 1) (digits n) → b ≡ sets a p s → s ≡ take k (digits n) → set b (p + k) (byte ".") ≡ sets l p (pointed (digits n) k)
unfolding pointed
between l a b p n k s h ea eb f =
    ap (λ (x : List ℕ). set x (p + k) (byte ".")) (eb ∙ ap (λ (x : List ℕ). sets x p s) ea ∙ ap (λ (x : List ℕ). sets (sets l (p + 1) (digits n)) p x) f)
    ∙ sets-between (digits n) l p k (byte ".") (omega (arith, length_digits n))

-- the digits of n are the w last of the eight in v
pub point_short : (l a b : List ℕ) (p n v w k : ℕ) → w ≡ count 19 n → w ≤ 8 → k ≤ w → le_bytes 8 v ≡ pad 8 n
    → a ≡ sets l (p + 1) (le_bytes w (v / 2 ^ (64 - 8 * w))) → b ≡ sets a p (le_bytes k (v / 2 ^ (64 - 8 * w)))
    → set b (p + k) (byte ".") ≡ sets l p (pointed (digits n) k)
unfolding digits
point_short l a b p n v w k c h g e ea eb =
    let u = v / 2 ^ (64 - 8 * w) in
    let d : le_bytes w u ≡ digits n = shift w v h ∙ last_digits w v n h e ∙ ap (λ (i : ℕ). pad i n) c in
    between l a b p n k (le_bytes k u) (omega arith) (ea ∙ ap (sets l (p + 1)) d) eb (sym (take-le k w u g) ∙ ap (take k) d)

-- the digits of n are the w - 8 last of the eight in v, and eight more
first_k : (n v w k : ℕ) → w ≡ count 19 n → 8 < w → w ≤ 16 → k + 8 ≤ w → le_bytes 8 v ≡ pad 8 (n / 100000000) → le_bytes k (v / 2 ^ (128 - 8 * w)) ≡ take k (digits n)
unfolding digits
first_k n v w k c h g j e =
    let m = n / 100000000 in
    let u = v / 2 ^ (128 - 8 * w) in
    let a : w - 8 ≤ 8 = omega arith in
    let b : k ≤ w - 8 = omega arith in
    let i : k ≤ length (pad (w - 8) m) = omega (arith, length-pad (w - 8) m) in
    let z : 64 - 8 * (w - 8) ≡ 128 - 8 * w = omega arith in
    let t : w ≡ w - 8 + 8 = omega arith in
    let d : digits n ≡ pad (w - 8) m ++ pad 8 n = ap (λ (i : ℕ). pad i n) (sym c ∙ t) ∙ pad-split (w - 8) 8 n in
    sym (take-le k (w - 8) u b)
    ∙ ap (take k) (rw z at (shift (w - 8) v a ∙ last_digits (w - 8) v m a e))
    ∙ sym (take-append-le k (pad (w - 8) m) (pad 8 n) i)
    ∙ ap (take k) (sym d)

-- they are stored by two words, the first with too much behind them
two_words : (l a b : List ℕ) (p n v x w : ℕ) → n < 2 ^ 64 → w ≡ count 19 n → 8 < w → w ≤ 16 → le_bytes 8 v ≡ pad 8 (n / 100000000) → le_bytes 8 x ≡ pad 8 (n % 100000000)
    → a ≡ sets l p (le_bytes 8 (v / 2 ^ (128 - 8 * w))) → b ≡ sets a (p + (w - 8)) (le_bytes 8 x)
    → b ≡ sets l p (digits n)
two_words l a b p n v x w o c h g e f ea eb =
    let m = n / 100000000 in
    let q : 100000000 ≤ n = over-8 n (omega arith) in
    let t : count 19 n ≡ count 19 m + 8 = count-blocks 8 n (omega arith) q o in
    let z : 16 - w + count 19 m ≡ 8 = omega arith in
    let y : 128 - 8 * w ≡ 8 * (16 - w) = omega arith in
    let r : p + (w - 8) ≡ p + (8 - (16 - w)) = omega arith in
    let first = ahead_of (16 - w) v m z e (ea ∙ ap (λ (i : ℕ). sets l p (le_bytes 8 (v / 2 ^ i))) y) in
    let all = ahead_more n q o first (eb ∙ ap (λ (i : ℕ). sets a i (le_bytes 8 x)) r ∙ ap (sets a (p + (8 - (16 - w)))) f) in
    all.bytes

pub point_long : (l a b d : List ℕ) (p n v x w k : ℕ) → n < 2 ^ 64 → w ≡ count 19 n → 8 < w → w ≤ 16 → k + 8 ≤ w → le_bytes 8 v ≡ pad 8 (n / 100000000) → le_bytes 8 x ≡ pad 8 (n % 100000000)
    → a ≡ sets l (p + 1) (le_bytes 8 (v / 2 ^ (128 - 8 * w))) → b ≡ sets a (p + (w - 7)) (le_bytes 8 x) → d ≡ sets b p (le_bytes k (v / 2 ^ (128 - 8 * w)))
    → set d (p + k) (byte ".") ≡ sets l p (pointed (digits n) k)
point_long l a b d p n v x w k o c h g j e f ea eb ed =
    let r : p + (w - 7) ≡ p + 1 + (w - 8) = omega arith in
    let kc : k ≤ count 19 n = omega arith in
    let all = two_words l a b (p + 1) n v x w o c h g e f ea (eb ∙ ap (λ (i : ℕ). sets a i (le_bytes 8 x)) r) in
    between l b d p n k (le_bytes k (v / 2 ^ (128 - 8 * w))) kc all ed (first_k n v w k c h g j e)

-- the digits behind the point are the w - k last of the eight in x
pub point_late : (l a b d : List ℕ) (p n v x w k : ℕ) → n < 2 ^ 64 → w ≡ count 19 n → 8 < w → w ≤ 16 → k ≤ w → w < k + 8 → le_bytes 8 v ≡ pad 8 (n / 100000000) → le_bytes 8 x ≡ pad 8 (n % 100000000)
    → a ≡ sets l p (le_bytes 8 (v / 2 ^ (128 - 8 * w))) → b ≡ sets a (p + (w - 8)) (le_bytes 8 x) → d ≡ sets b (p + k + 1) (drop (8 - (w - k)) (le_bytes 8 x))
    → set d (p + k) (byte ".") ≡ sets l p (pointed (digits n) k)
unfolding pointed
point_late l a b d p n v x w k o c h g j i e f ea eb ed =
    let s = drop (8 - (w - k)) (le_bytes 8 x) in
    let r : k + (w - k) ≡ count 19 n = omega arith in
    let t : s ≡ drop k (digits n) = last_digits (w - k) x n (omega arith) (f ∙ pad_mod 8 n) ∙ sym (digits-drop-pad k (w - k) n r) in
    ap (λ (y : List ℕ). set y (p + k) (byte ".")) (ed ∙ ap (λ (y : List ℕ). sets y (p + k + 1) s) (two_words l a b p n v x w o c h g e f ea eb) ∙ ap (sets (sets l p (digits n)) (p + k + 1)) t)
    ∙ sets_onward (digits n) l p k (byte ".") (omega (arith, length_digits n))
