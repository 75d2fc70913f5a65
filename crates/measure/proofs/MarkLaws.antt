-- Marks of the bytes of a word, as in `Lanes`: only the high bit of a mark counts; and how many of its bytes are marked. Assumes nothing.
use mathlib.Core.Path.{◌≡◌, refl, sym, ap, ◌∙◌}
use mathlib.Core.Bool.{Bool, true, false}
use mathlib.Core.List.{List, [], ◌∷◌}
use Prim.Native.Nat.{ℕ, zero, suc, ◌+◌, ◌-◌, ◌*◌, ◌/◌, ◌%◌, ◌≤◌, ◌<◌, min}
use native.Mathlib.Omega.{arith}
use lib.Bits.{bit_and, bit_xor, and_step, and_comm, and_block, and_zero_l, and_zero_r}
use lib.Dec.{eqb}
use Rattle.output.specs.Logic.{if}
use Rattle.output.specs.Wrote.{le_bytes}
use Rattle.lanes.specs.Lanes.{lanes, rep, Lane, unmarked_by, low, no_raw}
use Rattle.lanes.proofs.Table.{same as agree}

-- text escapes it (`no_raw`), and it is below hex 20
abbrev pub low_escape_mark : ℕ → ℕ
low_escape_mark b = bit_and (no_raw b) (0xFF - (low b + 0x60))

-- and it has no letter: it is not NUL, nor 7 to 13
abbrev pub hex_escape_mark : ℕ → ℕ
hex_escape_mark b = bit_and (low_escape_mark b) (bit_xor (bit_xor (low b + 0x7F) (low b + 0x79)) (low b + 0x72))

-- how many bytes are marked
unfoldable pub marked_count : (ℕ → ℕ) → List ℕ → ℕ
marked_count f [] = 0
marked_count f (b ∷ s) = (if (unmarked_by f b) 0 1) + marked_count f s

-- 1 for a marked byte
abbrev mark_bit : (ℕ → ℕ) → ℕ → ℕ
mark_bit f b = if (unmarked_by f b) 0 1

high_bit : (a : ℕ) → a < 256 → bit_and a 128 ≡ 128 * if (eqb (bit_and a 128) 0) 0 1
high_bit = agree (λ a. bit_and a 128) (λ a. 128 * if (eqb (bit_and a 128) 0) 0 1) 256 refl

-- the high bits of the n lowest bytes are 0 and 128 as digits in base 256
mark_digits : (f : ℕ → ℕ) → ((b : ℕ) → b < 256 → f b < 256) → (w n x : ℕ) → n ≤ w → bit_and (lanes w f x) (rep n 128) ≡ 128 * lanes n (mark_bit f) x
unfolding lanes rep unmarked_by
mark_digits f h w zero x l = and_zero_r (lanes w f x)
mark_digits f h zero (suc n) x l = absurd (omega arith)
mark_digits f h (suc w) (suc n) x l =
    let a : f (x % 256) < 256 = h (x % 256) (omega arith) in
    omega (arith, and_block 8 (lanes w f (x / 256)) (rep n 128) (f (x % 256)) 128 a (omega arith), mark_digits f h w n (x / 256) (omega arith), high_bit (f (x % 256)) a)

-- a number has the remainder by 255 that its digits' sum has, as 256 is 255 + 1
digit_sum : (f : ℕ → ℕ) (n x : ℕ) → lanes n (mark_bit f) x % 255 ≡ marked_count f (le_bytes n x) % 255
unfolding lanes marked_count le_bytes
digit_sum f zero x = refl
digit_sum f (suc n) x = omega (arith, digit_sum f n (x / 256))

-- no more bytes are marked than there are
marked_most : (f : ℕ → ℕ) (n x : ℕ) → marked_count f (le_bytes n x) ≤ n
unfolding marked_count le_bytes
marked_most f zero x = omega arith
marked_most f (suc n) x = go (unmarked_by f (x % 256)) (marked_most f n (x / 256))
  where
    go : (b : Bool) → marked_count f (le_bytes n (x / 256)) ≤ n → if b 0 1 + marked_count f (le_bytes n (x / 256)) ≤ suc n
    go true e = omega arith
    go false e = omega arith

-- the marks of the n lowest bytes, as digits
mark_bits : {f : ℕ → ℕ} {x v : ℕ} → Lane f x v → (n : ℕ) → n ≤ 8 → bit_and v (rep n 128) ≡ 128 * lanes n (mark_bit f) x
mark_bits {f} {x} {v} a n l = ap (λ (k : ℕ). bit_and k (rep n 128)) a.is ∙ mark_digits f a.small 8 n x l

-- how many of the n lowest bytes are marked
pub marked-count : {f : ℕ → ℕ} {x v : ℕ} → Lane f x v → (n : ℕ) → n ≤ 8 → bit_and v (rep n 128) / 128 % 255 ≡ marked_count f (le_bytes n x)
marked-count {f} {x} {v} a n l = omega (arith, mark_bits a n l, digit_sum f n x, marked_most f n x)

-- a remainder by 255 that is small, and twice another
sums : (a b i j : ℕ) → a % 255 ≡ i % 255 → b % 255 ≡ j % 255 → i ≤ 8 → j ≤ 8 → (a + 2 * b) % 255 ≡ i + 2 * j
sums a b i j p q h k =
    let s : a % 255 ≡ i = omega arith in
    let t : b % 255 ≡ j = omega arith in
    let e : a + 2 * b ≡ (i + 2 * j) + (a / 255 + 2 * (b / 255)) * 255 = omega arith in
    omega arith

-- and two for each that is marked by a second kind
pub marked-both : {f g : ℕ → ℕ} {x v u : ℕ} → Lane f x v → Lane g x u → (n : ℕ) → n ≤ 8
    → (bit_and v (rep n 128) / 128 + bit_and u (rep n 128) / 64) % 255 ≡ marked_count f (le_bytes n x) + 2 * marked_count g (le_bytes n x)
marked-both {f} {g} {x} {v} {u} a e n l =
    let p : bit_and v (rep n 128) / 128 ≡ lanes n (mark_bit f) x = (let d = mark_bits a n l in omega arith) in
    let q : bit_and u (rep n 128) / 64 ≡ 2 * lanes n (mark_bit g) x = (let d = mark_bits e n l in omega arith) in
    rw (p, q) (sums (lanes n (mark_bit f) x) (lanes n (mark_bit g) x) (marked_count f (le_bytes n x)) (marked_count g (le_bytes n x)) (digit_sum f n x) (digit_sum g n x) (omega (arith, marked_most f n x)) (omega (arith, marked_most g n x)))

-- the bits of a number, the lowest first
and-half : (a b : ℕ) → (bit_and a b / 2 ≡ bit_and (a / 2) (b / 2)) × (bit_and a b % 2 ≡ min (a % 2) (b % 2))
and-half a b = let e = and_step a b in (omega arith, omega arith)

and_assoc : (k a b c : ℕ) → a ≤ k → bit_and (bit_and a b) c ≡ bit_and a (bit_and b c)
and_assoc zero a b c l =
    let z : a ≡ 0 = omega arith in
    rw (z, and_zero_l b, and_zero_l c, and_zero_l (bit_and b c))
and_assoc (suc k) a b c l =
    let p = and-half a b in
    let q = and-half b c in
    let e : bit_and (bit_and a b / 2) (c / 2) ≡ bit_and (a / 2) (bit_and b c / 2) = rw (p.0, q.0) (and_assoc k (a / 2) (b / 2) (c / 2) (omega arith)) in
    omega (arith, and_step (bit_and a b) c, and_step a (bit_and b c), e, p.1, q.1)

-- marks that are cut to the n lowest bytes, and then by other marks
pub and_swap : (v h w : ℕ) → bit_and (bit_and v h) w ≡ bit_and (bit_and v w) h
and_swap v h w = and_assoc v v h w (omega arith) ∙ ap (bit_and v) (and_comm h w) ∙ sym (and_assoc v v w h (omega arith))
