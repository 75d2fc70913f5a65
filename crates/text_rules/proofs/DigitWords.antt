-- Eight digits in one word: its bytes, and the zeros in front. Assumes nothing.
use mathlib.Core.Path.{◌≡◌, refl, sym, ap, ◌∙◌}
use mathlib.Core.Bool.{true}
use mathlib.Core.List.{List, ◌++◌}
use Prim.Native.Nat.{ℕ, zero, suc, ◌+◌, ◌-◌, ◌*◌, ◌/◌, ◌%◌, ◌^◌, ◌≤◌, ◌<◌}
use native.Mathlib.Nat.{zero-add, suc-add, one-mul, mul_assoc, pow-suc, pow-succ', div-div-eq-div-mul, div-eq_of_lt, mod-eq_of_lt, le-div_iff_mul-le, div-lt_iff_lt-mul}
use native.Mathlib.Decide.{dec_le}
use native.Mathlib.Numerals.{add-one}
use native.Mathlib.Omega.{arith}
use lib.Dec.{lit<, leb}
use lib.Arith.{mod-mul}
use lib.Pow.{pow_pos}
use lib.Bits.{bit_or, or_add_and, and_le_l, or_lt, or_block, or_zero_r, or_step}
use lib.Count.{count_leading_zeros, count_trailing_zeros, under, leading_top}
use lib.ListN.{length, drop}
use lib.Seq.{sets, drop_at}
use Rattle.output.specs.Wrote.{le_bytes}
use Rattle.output.proofs.Laws.{length-le}
pub use Rattle.output.proofs.Laws.{sets_behind}
use Rattle.output.proofs.Words.{le_add, le-sum}
pub use Rattle.output.proofs.Words.{shift}
use Rattle.lanes.specs.DigitLanes.{digit_word, word_of}
use Rattle.lanes.proofs.DigitArith.{quot, rest}
use borrow.Author.Tests.{leb-true}
use Rattle.text_rules.specs.Digits.{pad, count, digits}
use Rattle.text_rules.specs.DigitSteps.{Led, Ahead}
use Rattle.text_rules.proofs.DigitLaws.{pow_pos10, length-pad, pad-split, count_most, last_one}
use Rattle.text_rules.proofs.DigitCode.{pad_mod, count-is, count-blocks}
use Rattle.lanes.proofs.Table.{same}

-- ---- the bytes of a word

-- the digit 0 eight times
abbrev pub zeros : ℕ
zeros = 3472328296227680304

tenth : (y : ℕ) → y < 100 → y / 10 % 10 ≡ y / 10
tenth y h = omega arith

-- byte by byte
zeros_sum : (a b c d e f g h : ℕ) → a + 256 * b + 65536 * c + 16777216 * d + 4294967296 * e + 1099511627776 * f + 281474976710656 * g + 72057594037927936 * h + zeros
    ≡ 48 + a + 256 * (48 + b) + 65536 * (48 + c) + 16777216 * (48 + d) + 4294967296 * (48 + e) + 1099511627776 * (48 + f) + 281474976710656 * (48 + g) + 72057594037927936 * (48 + h)
zeros_sum a b c d e f g h = omega arith

under_ten : (y : ℕ) → y < 10 → 48 + y < 256
under_ten y h = omega arith

pub pairs_word : (a b c d : ℕ) → a < 100 → b < 100 → c < 100 → d < 100 → le_bytes 8 (digit_word a b c d + zeros) ≡ pad 2 a ++ pad 2 b ++ pad 2 c ++ pad 2 d
unfolding pad digit_word
pairs_word a b c d ha hb hc hd =
    ap (le_bytes 8) (zeros_sum (a / 10) (a % 10) (b / 10) (b % 10) (c / 10) (c % 10) (d / 10) (d % 10))
    ∙ le-sum (48 + a / 10) (48 + a % 10) (48 + b / 10) (48 + b % 10) (48 + c / 10) (48 + c % 10) (48 + d / 10) (48 + d % 10)
    (under_ten (a / 10) (quot a ha)) (under_ten (a % 10) (rest a))
    (under_ten (b / 10) (quot b hb)) (under_ten (b % 10) (rest b))
    (under_ten (c / 10) (quot c hc)) (under_ten (c % 10) (rest c))
    (under_ten (d / 10) (quot d hd)) (under_ten (d % 10) (rest d))
    ∙ rw (tenth a ha, tenth b hb, tenth c hc, tenth d hd)

pad-8 : (x : ℕ) → pad 8 x ≡ pad 2 (x / 1000000) ++ pad 2 (x / 10000) ++ pad 2 (x / 100) ++ pad 2 x
pad-8 x =
    pad-split 6 2 x
    ∙ ap (λ (s : List ℕ). s ++ pad 2 x) (pad-split 4 2 (x / 100)
    ∙ ap (λ (k : ℕ). pad 4 k ++ pad 2 (x / 100)) (div-div-eq-div-mul x 100 100)
    ∙ ap (λ (s : List ℕ). s ++ pad 2 (x / 100)) (pad-split 2 2 (x / 10000)
    ∙ ap (λ (k : ℕ). pad 2 k ++ pad 2 (x / 10000)) (div-div-eq-div-mul x 10000 100)))

pub word_of_lem : (x : ℕ) → x < 100000000 → le_bytes 8 (word_of x + zeros) ≡ pad 8 x
word_of_lem x h =
    pairs_word (x / 1000000) (x / 10000 % 100) (x / 100 % 100) (x % 100) (omega arith) (omega arith) (omega arith) (omega arith)
    ∙ rw (pad_mod 2 (x / 10000), pad_mod 2 (x / 100), pad_mod 2 x) (sym (pad-8 x))

-- ---- the last digits of a word

pub last_digits : (w v n : ℕ) → w ≤ 8 → le_bytes 8 v ≡ pad 8 n → drop (8 - w) (le_bytes 8 v) ≡ pad w n
last_digits w v n h e =
    let m : 8 ≡ 8 - w + w = omega arith in
    ap (drop (8 - w)) (e ∙ ap (λ (k : ℕ). pad k n) m ∙ pad-split (8 - w) w n)
    ∙ drop_at (pad (8 - w) (n / 10 ^ w)) (pad w n) (8 - w) (length-pad (8 - w) (n / 10 ^ w))

-- eight bytes that begin with them
pub first-digits : (k c v n : ℕ) → k + c ≡ 8 → le_bytes 8 v ≡ pad 8 n → le_bytes 8 (v / 2 ^ (8 * k)) ≡ pad c n ++ le_bytes k (v / 2 ^ (8 * k) / 256 ^ c)
first-digits k c v n h e =
    let ck : 8 ≡ c + k = omega arith in
    let s : 64 - 8 * c ≡ 8 * k = omega arith in
    let l : le_bytes c (v / 2 ^ (8 * k)) ≡ pad c n = rw s at (shift c v (omega arith) ∙ last_digits c v n (omega arith) e) in
    ap (λ (j : ℕ). le_bytes j (v / 2 ^ (8 * k))) ck
    ∙ le_add c k (v / 2 ^ (8 * k))
    ∙ ap (λ (t : List ℕ). t ++ le_bytes k (v / 2 ^ (8 * k) / 256 ^ c)) l

pub ahead_of : {a b : List ℕ} {p : ℕ} (k v n : ℕ) → k + count 19 n ≡ 8 → le_bytes 8 v ≡ pad 8 n → b ≡ sets a p (le_bytes 8 (v / 2 ^ (8 * k))) → Ahead a b p (p + (8 - k)) n
unfolding digits
ahead_of {a} {b} {p} k v n h e f =
    let c = count 19 n in
    let junk = le_bytes k (v / 2 ^ (8 * k) / 256 ^ c) in
    let r : 8 - k ≡ c = omega arith in
    record {
      over = λ (t : List ℕ) (l : length t ≡ 8).
          ap (λ (x : List ℕ). sets x (p + (8 - k)) t) (f ∙ ap (sets a p) (first-digits k c v n h e))
          ∙ ap (λ (i : ℕ). sets (sets a p (pad c n ++ junk)) (p + i) t) (r ∙ sym (length-pad c n))
          ∙ sets_behind a (pad c n) junk t p (let q = length-le k (v / 2 ^ (8 * k) / 256 ^ c) in omega arith);
      end = ap (λ (i : ℕ). p + i) r;
    }

pub ahead_most : {a b : List ℕ} {p r n : ℕ} (j : ℕ) → Ahead a b p r n → n < 10 ^ suc j → r ≤ p + suc j
ahead_most {a} {b} {p} {r} {n} j h l = omega (arith, h.end, count_most 19 j n l)

-- eight digits behind them
pub ahead_more : {a b c : List ℕ} {p r : ℕ} (n : ℕ) → 100000000 ≤ n → n < 2 ^ 64 → Ahead a b p r (n / 100000000) → c ≡ sets b r (pad 8 (n % 100000000)) → Led a c p (r + 8) n
unfolding digits
ahead_more {a} {b} {c} {p} {r} n l h led e =
    let m = count 19 (n / 100000000) in
    let cnt : count 19 n ≡ m + 8 = count-blocks 8 n (omega arith) l h in
    record {
      bytes =
          e
          ∙ led.over (pad 8 (n % 100000000)) (length-pad 8 (n % 100000000))
          ∙ ap (λ (s : List ℕ). sets a p (pad m (n / 100000000) ++ s)) (pad_mod 8 n)
          ∙ ap (sets a p) (sym (pad-split m 8 n))
          ∙ ap (λ (w : ℕ). sets a p (pad w n)) (sym cnt);
      end = omega (arith, led.end);
    }

-- ---- the zeros in front

-- under a bit that is set there are no more zeros than bits, and over j zeros there are j more
trailing_low : (j k n : ℕ) → 0 < n % 2 ^ j → count_trailing_zeros (j + k) n < j
unfolding count_trailing_zeros
trailing_low zero k n h = let bad : ⊥ = omega arith in absurd bad
trailing_low (suc j) k n h = rw (suc-add j k) (go (n % 2) refl (trailing_low j k (n / 2)))
  where
    m : n % 2 ^ suc j ≡ n / 2 % 2 ^ j * 2 + n % 2
    m = rw (pow-suc 2 j) (mod-mul n (pow_pos j) (lit< tt))

    go : (b : ℕ) → n % 2 ≡ b → (0 < n / 2 % 2 ^ j → count_trailing_zeros (j + k) (n / 2) < j) → under b (count_trailing_zeros (j + k) (n / 2)) < suc j
    go zero e ih = omega (arith, m, ih (omega (arith, m)))
    go (suc b) e ih = omega arith

trailing_high : (j k n : ℕ) → count_trailing_zeros (j + k) (2 ^ j * n) ≡ j + count_trailing_zeros k n
unfolding count_trailing_zeros
trailing_high zero k n = rw (zero-add k, zero-add (count_trailing_zeros k n)) (ap (count_trailing_zeros k) (one-mul n))
trailing_high (suc j) k n =
    let p = 2 ^ j * n in
    let q : 2 ^ suc j * n ≡ 2 * p = rw (pow-succ' 2 j) (mul_assoc 2 (2 ^ j) n) in
    let z : 2 * p % 2 ≡ 0 = omega arith in
    let d : 2 * p / 2 ≡ p = omega arith in
    rw (q, suc-add j k, z, d) (ap suc (trailing_high j k n) ∙ sym (suc-add j (count_trailing_zeros k n)))

-- the k digits of x above its lowest, and b in place of that
unfoldable chain : ℕ → ℕ → ℕ → ℕ
chain zero b x = b
chain (suc k) b x = x / 10 ^ suc k % 10 + 256 * chain k b x

chain-zeros : (k b x : ℕ) → k < 20 → x < 10 ^ suc k → 0 < b → b < 256 → count_trailing_zeros (8 * suc k) (chain k b x) / 8 + count 19 x ≡ suc k
unfolding chain
chain-zeros zero b x s h p l =
    let m : b % 256 ≡ b = mod-eq_of_lt l in
    let t : count_trailing_zeros 8 b < 8 = trailing_low 8 0 b (omega arith) in
    omega (arith, last_one 19 x (omega arith))
chain-zeros (suc k) b x s h p l = go (dec_le (10 ^ suc k) x) (chain-zeros k b x (omega arith))
  where
    y : ℕ
    y = chain k b x

    d : ℕ
    d = x / 10 ^ suc k

    eight : 8 * suc (suc k) ≡ 8 + 8 * suc k
    eight = omega arith

    go : Dec (10 ^ suc k ≤ x) → (x < 10 ^ suc k → 0 < b → b < 256 → count_trailing_zeros (8 * suc k) y / 8 + count 19 x ≡ suc k) → count_trailing_zeros (8 * suc (suc k)) (d % 10 + 256 * y) / 8 + count 19 x ≡ suc (suc k)
    go (yes g) ih =
        let some : 1 ≤ d = (le-div_iff_mul-le (pow_pos10 (suc k))).1 (omega arith) in
        let top : d < 10 = (div-lt_iff_lt-mul (pow_pos10 (suc k))).1 (rw (pow-succ' 10 (suc k)) at h) in
        let n : 0 < (d % 10 + 256 * y) % 256 = omega arith in
        let t : count_trailing_zeros (8 + 8 * suc k) (d % 10 + 256 * y) < 8 = trailing_low 8 (8 * suc k) (d % 10 + 256 * y) n in
        rw eight (omega (arith, count-is (suc k) x s g h))
    go (no g) ih =
        let z : d ≡ 0 = div-eq_of_lt (omega arith) in
        let e : d % 10 + 256 * y ≡ 256 * y = omega arith in
        let t : count_trailing_zeros (8 + 8 * suc k) (256 * y) ≡ 8 + count_trailing_zeros (8 * suc k) y = trailing_high 8 (8 * suc k) y in
        rw (eight, e) (omega (arith, ih (omega arith) p l))

-- a digit with its lowest bit set is not 0
or_some : (d : ℕ) → d < 10 → (0 < bit_or d 1) × (bit_or d 1 < 256)
or_some d h = (omega (arith, or_add_and d 1, and_le_l d 1), omega (arith, or_lt 4 d 1 (omega arith) (lit< tt)))

or_top : (l d : ℕ) → l < 72057594037927936 → bit_or (l + 72057594037927936 * d) 72057594037927936 ≡ l + 72057594037927936 * bit_or d 1
or_top l d h =
    let e : l + 72057594037927936 * d ≡ d * 2 ^ 56 + l = omega arith in
    ap (λ (n : ℕ). bit_or n 72057594037927936) e ∙ or_block 56 d 1 l 0 h (lit< tt) ∙ rw (or_zero_r l) (omega arith)

low_seven : (a b c d e f g : ℕ) → a < 10 → b < 10 → c < 10 → d < 10 → e < 10 → f < 10 → g < 10 → a + 256 * b + 65536 * c + 16777216 * d + 4294967296 * e + 1099511627776 * f + 281474976710656 * g < 72057594037927936
low_seven a b c d e f g ha hb hc hd he hf hg = omega arith

nested : (a b c d e f g h : ℕ) → a + 256 * b + 65536 * c + 16777216 * d + 4294967296 * e + 1099511627776 * f + 281474976710656 * g + 72057594037927936 * h ≡ a + 256 * (b + 256 * (c + 256 * (d + 256 * (e + 256 * (f + 256 * (g + 256 * h))))))
nested a b c d e f g h = omega arith

word-digits : (x : ℕ) → x < 100000000 → word_of x ≡ x / 10000000 % 10 + 256 * (x / 1000000 % 10) + 65536 * (x / 100000 % 10) + 16777216 * (x / 10000 % 10) + 4294967296 * (x / 1000 % 10) + 1099511627776 * (x / 100 % 10) + 281474976710656 * (x / 10 % 10) + 72057594037927936 * (x % 10)
unfolding digit_word
word-digits x h =
    let a : x / 1000000 / 10 ≡ x / 10000000 % 10 = omega arith in
    let c : x / 10000 % 100 / 10 ≡ x / 100000 % 10 = omega arith in
    let d : x / 10000 % 100 % 10 ≡ x / 10000 % 10 = omega arith in
    let e : x / 100 % 100 / 10 ≡ x / 1000 % 10 = omega arith in
    let f : x / 100 % 100 % 10 ≡ x / 100 % 10 = omega arith in
    let g : x % 100 / 10 ≡ x / 10 % 10 = omega arith in
    let h : x % 100 % 10 ≡ x % 10 = omega arith in
    rw (a, c, d, e, f, g, h)

word-chain : (x : ℕ) → x < 100000000 → bit_or (word_of x) 72057594037927936 ≡ chain 7 (bit_or (x % 10) 1) x
unfolding chain
word-chain x h =
    ap (λ (n : ℕ). bit_or n 72057594037927936) (word-digits x h)
    ∙ or_top _ (x % 10) (low_seven (x / 10000000 % 10) (x / 1000000 % 10) (x / 100000 % 10) (x / 10000 % 10) (x / 1000 % 10) (x / 100 % 10) (x / 10 % 10) (rest (x / 10000000)) (rest (x / 1000000)) (rest (x / 100000)) (rest (x / 10000)) (rest (x / 1000)) (rest (x / 100)) (rest (x / 10)))
    ∙ nested (x / 10000000 % 10) (x / 1000000 % 10) (x / 100000 % 10) (x / 10000 % 10) (x / 1000 % 10) (x / 100 % 10) (x / 10 % 10) (bit_or (x % 10) 1)

pub zeros-count : (x d r : ℕ) → x < 100000000 → d ≡ word_of x → r ≡ count_trailing_zeros 64 (bit_or d 72057594037927936) / 8 → r + count 19 x ≡ 8
zeros-count x d r h e f =
    let b = or_some (x % 10) (omega arith) in
    ap (λ (k : ℕ). k + count 19 x) (f ∙ ap (λ (w : ℕ). count_trailing_zeros 64 (bit_or w 72057594037927936) / 8) e ∙ ap (λ (w : ℕ). count_trailing_zeros 64 w / 8) (word-chain x h))
    ∙ chain-zeros 7 (bit_or (x % 10) 1) x (omega arith) h b.0 b.1

-- ---- the number of bits tells the number of digits

guess_fits : (j : ℕ) → j < 64 → (10 ^ (suc j * 1233 / 4096 - 1) ≤ 2 ^ j) × (2 ^ suc j ≤ 10 ^ suc (suc j * 1233 / 4096))
guess_fits j h = (
  leb-true _ _ (same (λ j. leb (10 ^ (suc j * 1233 / 4096 - 1)) (2 ^ j)) (λ j. true) 64 refl j h),
  leb-true _ _ (same (λ j. leb (2 ^ suc j) (10 ^ suc (suc j * 1233 / 4096))) (λ j. true) 64 refl j h),
)

-- n is of j + 1 bits, or 0 where j is
bits-low : (n j : ℕ) → 2 ^ suc j ≤ n / 2 * 2 + 1 → 2 ^ suc j ≤ n
bits-low n j h = let h2 : 2 ^ j * 2 ≤ n / 2 * 2 + 1 = rw (pow-suc 2 j) at h in rw (pow-suc 2 j) (omega arith)

or_one : (n : ℕ) → bit_or n 1 ≡ n / 2 * 2 + 1
or_one n = or_step n 1 ∙ rw (or_zero_r (n / 2)) (omega arith)

-- what the bits of n say of its digits
pub record Bits (n b : ℕ) : Type 0 where
  pub low : 0 < b * 1233 / 4096 → 10 ^ (b * 1233 / 4096 - 1) ≤ n
  pub high : n < 10 ^ suc (b * 1233 / 4096)
  pub most : b ≤ 64

pub bits_of : (n z : ℕ) → n < 2 ^ 64 → z ≡ count_leading_zeros 64 (bit_or n 1) → Bits n (64 - z)
bits_of n z h e =
    let o = or_one n in
    let t = leading_top 64 (bit_or n 1) (omega arith) (or_lt 64 n 1 h (lit< tt)) in
    let j : ℕ = t.0 in
    let s : z + suc j ≡ 64 = ap (λ (k : ℕ). k + suc j) e ∙ t.1 in
    let b : 64 - z ≡ suc j = omega arith in
    rw b (go j (omega arith) (omega (arith, t.2)) (omega (arith, t.3)))
  where
    go : (j : ℕ) → j < 64 → 2 ^ j ≤ n / 2 * 2 + 1 → n / 2 * 2 + 1 < 2 ^ suc j → Bits n (suc j)
    go j l lo hi =
        let g = guess_fits j l in
        record { low = low j lo g.0; high = omega (arith, g.1); most = omega arith }
      where
        low : (j : ℕ) → 2 ^ j ≤ n / 2 * 2 + 1 → 10 ^ (suc j * 1233 / 4096 - 1) ≤ 2 ^ j → 0 < suc j * 1233 / 4096 → 10 ^ (suc j * 1233 / 4096 - 1) ≤ n
        low zero lo g p = let bad : ⊥ = omega arith in absurd bad
        low (suc i) lo g p = omega (arith, bits-low n i lo)

pub bits-under : (n b : ℕ) → Bits n b → n < 10 ^ (b * 1233 / 4096) → 0 < b * 1233 / 4096 → b * 1233 / 4096 ≡ count 19 n
bits-under n b h u p =
    let t = b * 1233 / 4096 in
    let e : suc (t - 1) ≡ t = omega arith in
    sym (count-is (t - 1) n (omega (arith, h.most)) (h.low p) (rw e u) ∙ e)

pub bits_over : (n b : ℕ) → Bits n b → 10 ^ (b * 1233 / 4096) ≤ n → b * 1233 / 4096 + 1 ≡ count 19 n
bits_over n b h o = add-one (b * 1233 / 4096) ∙ sym (count-is (b * 1233 / 4096) n (omega (arith, h.most)) o h.high)
