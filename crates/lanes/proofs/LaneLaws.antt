-- Laws of words as bytes side by side: no operation used here carries from one byte to the next. Assumes nothing.
use mathlib.Core.Path.{◌≡◌, refl, ap, ap₂, ◌∙◌}
use mathlib.Core.Bool.{Bool, true, false, ◌&&◌, and-true}
use mathlib.Core.List.{map}
use Prim.Native.Nat.{ℕ, zero, suc, ◌+◌, ◌-◌, ◌*◌, ◌/◌, ◌%◌, ◌^◌, ◌≤◌, ◌<◌}
use native.Mathlib.Nat.{pow-suc, add-mul, mul_right_comm}
use native.Mathlib.Omega.{arith}
use lib.Bits.{bit_and, bit_or, bit_xor, and_block, or_block, xor_block, and_lt, or_lt, xor_lt, and_comm, and_le_l, and_le_r, and_zero_r, and_high, or_add_and}
use lib.Dec.{eqb}
use borrow.Author.Tests.{eqb-true, eqb-false, eq-eqb, ne_eqb}
use Rattle.output.specs.Wrote.{le_bytes}
use Rattle.lanes.specs.Lanes.{lanes, rep, Lane, every, unmarked_by, low, other_mark}

pub byte_lt : (x : ℕ) → x % 256 < 256
byte_lt x = omega arith

-- ---- the operations, of any number of bytes

module _ (op : ℕ → ℕ → ℕ) (block : (k a b r s : ℕ) → r < 2 ^ k → s < 2 ^ k → op (a * 2 ^ k + r) (b * 2 ^ k + s) ≡ op a b * 2 ^ k + op r s) (none : op 0 0 ≡ 0) where
  lanes_op : (f g : ℕ → ℕ) → ((b : ℕ) → b < 256 → f b < 256) → ((b : ℕ) → b < 256 → g b < 256) → (w x : ℕ) → op (lanes w f x) (lanes w g x) ≡ lanes w (λ b. op (f b) (g b)) x
  unfolding lanes
  lanes_op f g hf hg zero x = none
  lanes_op f g hf hg (suc w) x =
      block 8 (lanes w f (x / 256)) (lanes w g (x / 256)) (f (x % 256)) (g (x % 256)) (hf _ (byte_lt x)) (hg _ (byte_lt x))
      ∙ ap (λ (k : ℕ). k * 256 + op (f (x % 256)) (g (x % 256))) (lanes_op f g hf hg w (x / 256))

lanes_add : (f g : ℕ → ℕ) (w x : ℕ) → lanes w f x + lanes w g x ≡ lanes w (λ b. f b + g b) x
unfolding lanes
lanes_add f g zero x = refl
lanes_add f g (suc w) x = omega (arith, lanes_add f g w (x / 256))

lanes_lt : (f : ℕ → ℕ) → ((b : ℕ) → b < 256 → f b < 256) → (w x : ℕ) → lanes w f x < 256 ^ w
unfolding lanes
lanes_lt f h zero x = omega arith
lanes_lt f h (suc w) x = rw (pow-suc 256 w) (omega (arith, lanes_lt f h w (x / 256), h (x % 256) (byte_lt x)))

lanes-not : (f : ℕ → ℕ) → ((b : ℕ) → b < 256 → f b < 256) → (w x : ℕ) → (256 ^ w - 1) - lanes w f x ≡ lanes w (λ b. 255 - f b) x
unfolding lanes
lanes-not f h zero x = refl
lanes-not f h (suc w) x = rw (pow-suc 256 w) (omega (arith, lanes-not f h w (x / 256), lanes_lt f h w (x / 256), h (x % 256) (byte_lt x)))

lanes_self : (w x : ℕ) → x < 256 ^ w → x ≡ lanes w (λ b. b) x
unfolding lanes
lanes_self zero x h = omega arith
lanes_self (suc w) x h =
    let l : x < 256 ^ w * 256 = rw (pow-suc 256 w) at h in
    omega (arith, lanes_self w (x / 256) (omega arith))

lanes_le : (f g : ℕ → ℕ) → ((b : ℕ) → b < 256 → g b ≤ f b) → (w x : ℕ) → lanes w g x ≤ lanes w f x
unfolding lanes
lanes_le f g h zero x = omega arith
lanes_le f g h (suc w) x = omega (arith, lanes_le f g h w (x / 256), h (x % 256) (byte_lt x))

lanes-sub : (f g : ℕ → ℕ) → ((b : ℕ) → b < 256 → g b ≤ f b) → (w x : ℕ) → lanes w f x - lanes w g x ≡ lanes w (λ b. f b - g b) x
unfolding lanes
lanes-sub f g h zero x = refl
lanes-sub f g h (suc w) x = omega (arith, lanes-sub f g h w (x / 256), lanes_le f g h w (x / 256), h (x % 256) (byte_lt x))

lanes_times : (k : ℕ) (f : ℕ → ℕ) (w x : ℕ) → lanes w f x * k ≡ lanes w (λ b. f b * k) x
unfolding lanes
lanes_times k f zero x = omega arith
lanes_times k f (suc w) x =
    add-mul (lanes w f (x / 256) * 256) (f (x % 256)) k
    ∙ ap (λ (i : ℕ). i + f (x % 256) * k) (mul_right_comm (lanes w f (x / 256)) 256 k ∙ ap (λ (i : ℕ). i * 256) (lanes_times k f w (x / 256)))

lanes_high : (f : ℕ → ℕ) (w x : ℕ) → lanes w (λ b. bit_and (f b) 128) x ≡ lanes w (λ b. bit_and (f b) 128 / 128) x * 128
unfolding lanes
lanes_high f zero x = refl
lanes_high f (suc w) x = omega (arith, lanes_high f w (x / 256), and_high (f (x % 256)) 1 7)

lanes_bytes : (f : ℕ → ℕ) → ((b : ℕ) → b < 256 → f b < 256) → (w n x : ℕ) → n ≤ w → le_bytes n (lanes w f x) ≡ map f (le_bytes n x)
unfolding lanes le_bytes
lanes_bytes f h w zero x l = refl
lanes_bytes f h zero (suc n) x l = absurd (omega arith)
lanes_bytes f h (suc w) (suc n) x l =
    let s = h (x % 256) (byte_lt x) in
    let q : (lanes w f (x / 256) * 256 + f (x % 256)) / 256 ≡ lanes w f (x / 256) = omega arith in
    let r : (lanes w f (x / 256) * 256 + f (x % 256)) % 256 ≡ f (x % 256) = omega arith in
    rw (q, r, lanes_bytes f h w n (x / 256) (omega arith))

-- ---- of a word

pub lane_self : (x : ℕ) → x < 2 ^ 64 → Lane (λ b. b) x x
lane_self x h = record { is = lanes_self 8 x h; small = λ b l. l }

-- the literal that has the byte c in each place
pub lane_rep : (x c : ℕ) → c < 256 → Lane (λ b. c) x (rep 8 c)
unfolding lanes rep
lane_rep x c h = record { is = refl; small = λ b l. h }

module _ {f g : ℕ → ℕ} {x v u : ℕ} where
  pub lane_and : Lane f x v → Lane g x u → Lane (λ b. bit_and (f b) (g b)) x (bit_and v u)
  lane_and a e = record { is = ap₂ bit_and a.is e.is ∙ lanes_op bit_and and_block refl f g a.small e.small 8 x; small = λ b l. and_lt 8 (f b) (g b) (a.small b l) (e.small b l) }

  pub lane_or : Lane f x v → Lane g x u → Lane (λ b. bit_or (f b) (g b)) x (bit_or v u)
  lane_or a e = record { is = ap₂ bit_or a.is e.is ∙ lanes_op bit_or or_block refl f g a.small e.small 8 x; small = λ b l. or_lt 8 (f b) (g b) (a.small b l) (e.small b l) }

  pub lane_xor : Lane f x v → Lane g x u → Lane (λ b. bit_xor (f b) (g b)) x (bit_xor v u)
  lane_xor a e = record { is = ap₂ bit_xor a.is e.is ∙ lanes_op bit_xor xor_block refl f g a.small e.small 8 x; small = λ b l. xor_lt 8 (f b) (g b) (a.small b l) (e.small b l) }

  -- no byte's sum is past a byte
  pub lane_add : ((b : ℕ) → b < 256 → f b + g b < 256) → Lane f x v → Lane g x u → Lane (λ b. f b + g b) x (v + u)
  lane_add h a e = record { is = ap₂ (λ (i j : ℕ). i + j) a.is e.is ∙ lanes_add f g 8 x; small = h }

  -- no byte is less than what is taken from it
  pub lane_le : ((b : ℕ) → b < 256 → g b ≤ f b) → Lane f x v → Lane g x u → u ≤ v
  lane_le h a e = rw (a.is, e.is) (lanes_le f g h 8 x)

  pub lane_sub : ((b : ℕ) → b < 256 → g b ≤ f b) → Lane f x v → Lane g x u → Lane (λ b. f b - g b) x (v - u)
  lane_sub h a e = record { is = ap₂ (λ (i j : ℕ). i - j) a.is e.is ∙ lanes-sub f g h 8 x; small = λ b l. omega (arith, a.small b l) }

module _ {f : ℕ → ℕ} {x v : ℕ} where
  pub lane_not : Lane f x v → Lane (λ b. 255 - f b) x (18446744073709551615 - v)
  lane_not a = record { is = ap (λ (i : ℕ). 18446744073709551615 - i) a.is ∙ lanes-not f a.small 8 x; small = λ b l. omega arith }

  pub lane_times : (k : ℕ) → ((b : ℕ) → b < 256 → f b * k < 256) → Lane f x v → Lane (λ b. f b * k) x (v * k)
  lane_times k h a = record { is = ap (λ (i : ℕ). i * k) a.is ∙ lanes_times k f 8 x; small = h }

  -- the high bit of each byte, as 0 or 1
  pub lane_high : Lane f x v → Lane (λ b. bit_and (f b) 128 / 128) x (bit_and v 0x8080808080808080 / 128)
  unfolding rep
  lane_high a =
      let marks = lane_and a (lane_rep x 128 (omega arith)) in
      record { is = omega (arith, marks.is, lanes_high f 8 x); small = λ b l. omega (arith, and_le_r (f b) 128) }

  pub lane_lt : Lane f x v → v < 18446744073709551616
  lane_lt a = rw a.is (lanes_lt f a.small 8 x)

  -- the bytes themselves
  pub lane_bytes : Lane f x v → (n : ℕ) → n ≤ 8 → le_bytes n v ≡ map f (le_bytes n x)
  lane_bytes a n l = rw a.is (lanes_bytes f a.small 8 n x l)

-- ---- sums whose bytes stay bytes: both sides are below hex 80

pub low_lt : (b : ℕ) → low b < 128
low_lt b = omega (arith, and_le_r b 127)

pub lane_low : (x : ℕ) → x < 2 ^ 64 → Lane low x (bit_and x 0x7F7F7F7F7F7F7F7F)
unfolding rep
lane_low x h = lane_and (lane_self x h) (lane_rep x 0x7F (omega arith))

pub low_add : (c x : ℕ) → c < 128 → x < 2 ^ 64 → Lane (λ b. low b + c) x (bit_and x 0x7F7F7F7F7F7F7F7F + rep 8 c)
low_add c x l h = lane_add (λ b k. omega (arith, low_lt b)) (lane_low x h) (lane_rep x c (omega arith))

pub case_add : (c x : ℕ) → c < 128 → x < 2 ^ 64 → Lane (λ b. bit_or (low b) 0x20 + c) x (bit_or (bit_and x 0x7F7F7F7F7F7F7F7F) 0x2020202020202020 + rep 8 c)
unfolding rep
case_add c x l h = lane_add (λ b k. omega (arith, or_lt 7 (low b) 0x20 (low_lt b) (omega arith))) (lane_or (lane_low x h) (lane_rep x 0x20 (omega arith))) (lane_rep x c (omega arith))

pub other_add : (c x : ℕ) → c < 128 → x < 2 ^ 64 → Lane (other_mark c) x (bit_xor (bit_and x 0x7F7F7F7F7F7F7F7F) (rep 8 c) + 0x7F7F7F7F7F7F7F7F)
unfolding rep
other_add c x l h = lane_add (λ b k. omega (arith, xor_lt 7 (low b) c (low_lt b) l)) (lane_xor (lane_low x h) (lane_rep x c (omega arith))) (lane_rep x 0x7F (omega arith))

-- ---- the marks of the n lowest bytes, all at once

-- two numbers of two digits each
pub two_digits : (p q r s : ℕ) → q < 256 → s < 256 → eqb (p * 256 + q) (r * 256 + s) ≡ eqb q s && eqb p r
two_digits p q r s hq hs = go (eqb q s) refl (eqb p r) refl
  where
    go : (a : Bool) → eqb q s ≡ a → (b : Bool) → eqb p r ≡ b → eqb (p * 256 + q) (r * 256 + s) ≡ a && b
    go true e true g = eq-eqb (p * 256 + q) (r * 256 + s) (omega (arith, eqb-true q s e, eqb-true p r g))
    go true e false g = ne_eqb (p * 256 + q) (r * 256 + s) (λ (z : p * 256 + q ≡ r * 256 + s). eqb-false p r g (omega arith))
    go false e b g = ne_eqb (p * 256 + q) (r * 256 + s) (λ (z : p * 256 + q ≡ r * 256 + s). eqb-false q s e (omega arith))

marks : (f : ℕ → ℕ) → ((b : ℕ) → b < 256 → f b < 256) → (w n x : ℕ) → n ≤ w → eqb (bit_and (lanes w f x) (rep n 128)) 0 ≡ every (unmarked_by f) (le_bytes n x)
unfolding lanes rep every unmarked_by le_bytes
marks f h w zero x l = ap (λ (k : ℕ). eqb k 0) (and_zero_r (lanes w f x))
marks f h zero (suc n) x l = absurd (omega arith)
marks f h (suc w) (suc n) x l =
    ap (λ (k : ℕ). eqb k 0) (and_block 8 (lanes w f (x / 256)) (rep n 128) (f (x % 256)) 128 (h _ (byte_lt x)) (omega arith))
    ∙ two_digits (bit_and (lanes w f (x / 256)) (rep n 128)) (bit_and (f (x % 256)) 128) 0 0 (omega (arith, and_le_r (f (x % 256)) 128)) (omega arith)
    ∙ ap (λ (b : Bool). eqb (bit_and (f (x % 256)) 128) 0 && b) (marks f h w n (x / 256) (omega arith))

module _ {f : ℕ → ℕ} {x v : ℕ} (a : Lane f x v) where
  -- no high bit is set where no byte is marked
  pub unmarked : (n : ℕ) → n ≤ 8 → eqb (bit_and v (rep n 128)) 0 ≡ every (unmarked_by f) (le_bytes n x)
  unmarked n l = ap (λ (k : ℕ). eqb (bit_and k (rep n 128)) 0) a.is ∙ marks f a.small 8 n x l

  -- the lowest byte alone
  pub first_unmarked : eqb (bit_and v 128) 0 ≡ unmarked_by f (x % 256)
  unfolding rep every le_bytes
  first_unmarked = unmarked 1 (omega arith) ∙ and-true (unmarked_by f (x % 256))

-- two tests that say the same of each byte
pub every-same : (p q : ℕ → Bool) → ((b : ℕ) → b < 256 → p b ≡ q b) → (n x : ℕ) → every p (le_bytes n x) ≡ every q (le_bytes n x)
unfolding every le_bytes
every-same p q t zero x = refl
every-same p q t (suc n) x = ap₂ (λ (a b : Bool). a && b) (t _ (byte_lt x)) (every-same p q t n (x / 256))

-- ---- a bitwise or is no less than either side

pub or_left : (a b : ℕ) → a ≤ bit_or a b
or_left a b = omega (arith, or_add_and a b, and_comm a b, and_le_l b a)

pub or_right : (a b : ℕ) → b ≤ bit_or a b
or_right a b = omega (arith, or_add_and a b, and_le_l a b)
