-- The arithmetic of digits in lanes. Assumes nothing.
use mathlib.Core.Path.{◌≡◌, sym, ◌∙◌}
use Prim.Native.Nat.{ℕ, ◌+◌, ◌-◌, ◌*◌, ◌/◌, ◌%◌, ◌<◌}
use native.Mathlib.Nat.{add_comm, div-div-eq-div-mul}
use native.Mathlib.Omega.{arith}
use Rattle.lanes.specs.DigitLanes.{packed, digit_word}

-- ---- lanes

-- by ten, with a product
ten : (y : ℕ) → y < 100 → y * 103 / 1024 ≡ y / 10
ten y h =
    let p = y / 10 in
    let s = y % 10 in
    let e : y ≡ 10 * p + s = omega arith in
    omega arith

-- a lane's quotient with those of the lanes above it, and the next lane's
lane_first : (y z : ℕ) → y < 100 → (y + 65536 * z) * 103 / 1024 ≡ y / 10 + 6592 * z
lane_first y z h = let e = ten y h in omega arith

lane_next : (q y z : ℕ) → q < 64 → y < 100 → (q + 6592 * (y + 65536 * z)) / 65536 ≡ y / 10 + 6592 * z
lane_next q y z k h = let e = ten y h in omega arith

lane_low : (q z : ℕ) → q < 64 → (q + 6592 * z) % 64 ≡ q
lane_low q z h = omega arith

-- the quotients of all four lanes
quot-64 : (y : ℕ) → y < 100 → y / 10 < 64
quot-64 y h = omega arith

four_sum : (p q r s : ℕ) → p + q * 65536 + r * 4294967296 + (s + 6592 * 0) * 281474976710656 ≡ packed p q r s
four_sum p q r s = omega arith

pub tens_of : (a b c d h u : ℕ) → a < 100 → b < 100 → c < 100 → d < 100 → h ≡ packed a b c d → u ≡ h * 103 / 1024
    → u % 64 + u / 65536 % 64 * 65536 + u / 4294967296 % 64 * 4294967296 + u / 281474976710656 * 281474976710656 ≡ packed (a / 10) (b / 10) (c / 10) (d / 10)
tens_of a b c d h u ha hb hc hd e f =
    let h3 : ℕ = d + 65536 * 0 in
    let h2 : ℕ = c + 65536 * h3 in
    let h1 : ℕ = b + 65536 * h2 in
    let h0 : h ≡ a + 65536 * h1 = omega arith in
    let u0 : u ≡ a / 10 + 6592 * h1 = f ∙ rw h0 (lane_first a h1 ha) in
    let u1 : u / 65536 ≡ b / 10 + 6592 * h2 = rw u0 (lane_next (a / 10) b h2 (quot-64 a ha) hb) in
    let u2 : u / 4294967296 ≡ c / 10 + 6592 * h3 = sym (div-div-eq-div-mul u 65536 65536) ∙ rw u1 (lane_next (b / 10) c h3 (quot-64 b hb) hc) in
    let u3 : u / 281474976710656 ≡ d / 10 + 6592 * 0 = sym (div-div-eq-div-mul u 4294967296 65536) ∙ rw u2 (lane_next (c / 10) d 0 (quot-64 c hc) hd) in
    let t0 : u % 64 ≡ a / 10 = rw u0 (lane_low (a / 10) h1 (quot-64 a ha)) in
    let t1 : u / 65536 % 64 ≡ b / 10 = rw u1 (lane_low (b / 10) h2 (quot-64 b hb)) in
    let t2 : u / 4294967296 % 64 ≡ c / 10 = rw u2 (lane_low (c / 10) h3 (quot-64 c hc)) in
    rw (t0, t1, t2, u3) (four_sum (a / 10) (b / 10) (c / 10) (d / 10))

-- what is left over a multiple, times k
after : (t m h c k : ℕ) → h ≡ c * t + m → (h - c * t) * k + t ≡ m * k + t
after t m h c k e = let d : h - c * t ≡ m = omega arith in rw d

-- their remainders, a byte higher
pub remainders : (a b c d h t : ℕ) → h ≡ packed a b c d → t ≡ packed (a / 10) (b / 10) (c / 10) (d / 10) → h ≡ 10 * t + packed (a % 10) (b % 10) (c % 10) (d % 10)
remainders a b c d h t e f = e ∙ rw f (go (a / 10) (a % 10) (b / 10) (b % 10) (c / 10) (c % 10) (d / 10) (d % 10) a b c d (split a) (split b) (split c) (split d))
  where
    split : (y : ℕ) → y ≡ 10 * (y / 10) + y % 10
    split y = omega arith

    go : (i j k l m n o p a b c d : ℕ) → a ≡ 10 * i + j → b ≡ 10 * k + l → c ≡ 10 * m + n → d ≡ 10 * o + p → packed a b c d ≡ 10 * packed i k m o + packed j l n p
    go i j k l m n o p a b c d ea eb ec ed = omega arith

pub lanes_word : (a b c d h t : ℕ) → h ≡ packed a b c d → t ≡ packed (a / 10) (b / 10) (c / 10) (d / 10) → t + (h - 10 * t) * 256 ≡ digit_word a b c d
unfolding digit_word
lanes_word a b c d h t e f =
    add_comm t ((h - 10 * t) * 256)
    ∙ after t (packed (a % 10) (b % 10) (c % 10) (d % 10)) h 10 256 (remainders a b c d h t e f)
    ∙ rw f (go (a / 10) (a % 10) (b / 10) (b % 10) (c / 10) (c % 10) (d / 10) (d % 10))
  where
    go : (i j k l m n o p : ℕ) → packed j l n p * 256 + packed i k m o ≡ i + 256 * j + 65536 * k + 16777216 * l + 4294967296 * m + 1099511627776 * n + 281474976710656 * o + 72057594037927936 * p
    go i j k l m n o p = omega arith

-- ---- halves

hundred : (y : ℕ) → y < 10000 → y * 10486 / 1048576 ≡ y / 100
hundred y h =
    let p = y / 100 in
    let s = y % 100 in
    let e : y ≡ 100 * p + s = omega arith in
    omega arith

-- both halves by a hundred
half-first : (y z : ℕ) → y < 10000 → (y + 4294967296 * z) * 10486 / 1048576 ≡ y / 100 + 42950656 * z
half-first y z h = let e = hundred y h in omega arith

half-next : (q z : ℕ) → q < 4096 → z < 10000 → (q + 42950656 * z) / 4294967296 ≡ z / 100
half-next q z k h = let e = hundred z h in omega arith

half-low : (q z : ℕ) → q < 4096 → (q + 42950656 * z) % 4096 ≡ q
half-low q z h = omega arith

pub tops_of : (y z m v : ℕ) → y < 10000 → z < 10000 → m ≡ y + 4294967296 * z → v ≡ m * 10486 / 1048576 → v / 4294967296 * 4294967296 + v % 4096 ≡ y / 100 + 4294967296 * (z / 100)
tops_of y z m v hy hz e f =
    let v0 : v ≡ y / 100 + 42950656 * z = f ∙ rw e (half-first y z hy) in
    let v1 : v / 4294967296 ≡ z / 100 = rw v0 (half-next (y / 100) z (omega arith) hz) in
    let v2 : v % 4096 ≡ y / 100 = rw v0 (half-low (y / 100) z (omega arith)) in
    rw (v1, v2) (omega arith)

-- the halves of x, in four lanes
pub top-under : (y z m t : ℕ) → m ≡ y + 4294967296 * z → t ≡ y / 100 + 4294967296 * (z / 100) → m ≡ 100 * t + (y % 100 + 4294967296 * (z % 100))
top-under y z m t e f = omega arith

pub halves_packed : (x m t : ℕ) → m ≡ x / 10000 + 4294967296 * (x % 10000) → t ≡ x / 10000 / 100 + 4294967296 * (x % 10000 / 100)
    → (m - 100 * t) * 65536 + t ≡ packed (x / 1000000) (x / 10000 % 100) (x / 100 % 100) (x % 100)
halves_packed x m t e f =
    let y = x / 10000 in
    let z = x % 10000 in
    let a : y / 100 ≡ x / 1000000 = omega arith in
    let c : z / 100 ≡ x / 100 % 100 = omega arith in
    let d : z % 100 ≡ x % 100 = omega arith in
    after t (y % 100 + 4294967296 * (z % 100)) m 100 65536 (top-under y z m t e f)
    ∙ rw (f, a, c, d) (go (x / 1000000) (y % 100) (x / 100 % 100) (x % 100))
  where
    go : (a b c d : ℕ) → (b + 4294967296 * d) * 65536 + (a + 4294967296 * c) ≡ packed a b c d
    go a b c d = omega arith

-- ---- the word is small

pub quot : (y : ℕ) → y < 100 → y / 10 < 10
quot y h = omega arith

pub rest : (y : ℕ) → y % 10 < 10
rest y = omega arith

pub word_small : (a b c d : ℕ) → a < 100 → b < 100 → c < 100 → d < 100 → digit_word a b c d < 720575940379279360
unfolding digit_word
word_small a b c d ha hb hc hd = small (a / 10) (a % 10) (b / 10) (b % 10) (c / 10) (c % 10) (d / 10) (d % 10) (quot a ha) (rest a) (quot b hb) (rest b) (quot c hc) (rest c) (quot d hd) (rest d)
  where
    small : (a b c d e f g h : ℕ) → a < 10 → b < 10 → c < 10 → d < 10 → e < 10 → f < 10 → g < 10 → h < 10 → a + 256 * b + 65536 * c + 16777216 * d + 4294967296 * e + 1099511627776 * f + 281474976710656 * g + 72057594037927936 * h < 720575940379279360
    small a b c d e f g h ha hb hc hd he hf hg hh = omega arith
