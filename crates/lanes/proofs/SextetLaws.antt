-- Laws of numbers of six bits and bytes in a word, and of the numbers of base64's characters. Assumes nothing.
use mathlib.Core.Path.{◌≡◌, refl, sym, ap, ap₂, ◌∙◌}
use mathlib.Core.Bool.{true}
use mathlib.Core.List.{List, [], ◌∷◌}
use Prim.Native.Nat.{ℕ, suc, ◌+◌, ◌-◌, ◌*◌, ◌/◌, ◌%◌, ◌^◌, ◌≤◌, ◌<◌}
use native.Mathlib.Nat.{zero-add, add-mul, mul_assoc, mul_right_comm, mul-div_cancel, mul-le-mul_right, div-div-eq-div-mul}
use native.Mathlib.Omega.{arith}
use lib.Bits.{bit_and, and_block, and_high, and_le_r}
use lib.Dec.{leb}
use borrow.Author.Tests.{leb-true}
use Rattle.output.specs.Wrote.{le_bytes}
use Rattle.lanes.specs.Lanes.{rep, Lane, low}
use Rattle.lanes.specs.Sextets.{sextets, octets, at_least}
use Rattle.lanes.proofs.LaneLaws.{byte_lt, lane_add, lane_times, lane_high, lane_low, low_add, low_lt}
use Rattle.lanes.proofs.Table.{same}

-- ---- the numbers of characters

flag_most : (n : ℕ) → bit_and n 128 / 128 ≤ 1
flag_most n = omega (arith, and_le_r n 128)

flag_small : (n k : ℕ) → k < 256 → bit_and n 128 / 128 * k < 256
flag_small n k l = omega (arith, mul-le-mul_right k (flag_most n))

-- no byte's number is below 0
pub no_less : (b : ℕ) → b < 256 → at_least 47 b * 3 + at_least 48 b * 12 + at_least 65 b * 69 + at_least 97 b * 6 ≤ low b + at_least 43 b * 19
no_less b h =
    leb-true _ _ (same (λ b. leb (at_least 47 b * 3 + at_least 48 b * 12 + at_least 65 b * 69 + at_least 97 b * 6) (low b + at_least 43 b * 19)) (λ b. true) 256 refl b h)

module _ (x : ℕ) (h : x < 2 ^ 64) where
  abbrev flags : ℕ → ℕ
  flags c = bit_and (bit_and x 0x7F7F7F7F7F7F7F7F + rep 8 c) 0x8080808080808080 / 128

  flagged : (c k : ℕ) → c < 128 → k < 256 → Lane (λ b. bit_and (low b + c) 128 / 128 * k) x (flags c * k)
  flagged c k l s = lane_times k (λ b _. flag_small (low b + c) k s) (lane_high (low_add c x l h))

  -- what is taken from, and what is taken
  pub raised : Lane (λ b. low b + at_least 43 b * 19) x (bit_and x 0x7F7F7F7F7F7F7F7F + flags 0x55 * 19)
  raised = lane_add (λ b _. omega (arith, low_lt b, flag_most (low b + 85))) (lane_low x h) (flagged 0x55 19 (omega arith) (omega arith))

  pub taken : Lane (λ b. at_least 47 b * 3 + at_least 48 b * 12 + at_least 65 b * 69 + at_least 97 b * 6) x (flags 0x51 * 3 + flags 0x50 * 12 + flags 0x3F * 69 + flags 0x1F * 6)
  taken =
      let two = lane_add (λ b _. omega (arith, flag_most (low b + 81), flag_most (low b + 80))) (flagged 0x51 3 (omega arith) (omega arith)) (flagged 0x50 12 (omega arith) (omega arith)) in
      let three = lane_add (λ b _. omega (arith, flag_most (low b + 81), flag_most (low b + 80), flag_most (low b + 63))) two (flagged 0x3F 69 (omega arith) (omega arith)) in
      lane_add (λ b _. omega (arith, flag_most (low b + 81), flag_most (low b + 80), flag_most (low b + 63), flag_most (low b + 31))) three (flagged 0x1F 6 (omega arith) (omega arith))

-- ---- bytes of a word

bytes_cons : (w r d : ℕ) → d < 256 → le_bytes (suc w) (d + 256 * r) ≡ d ∷ le_bytes w r
unfolding le_bytes
bytes_cons w r d l =
    let q : (d + 256 * r) / 256 ≡ r = omega arith in
    let m : (d + 256 * r) % 256 ≡ d = omega arith in
    rw (q, m)

bytes-3 : (w a b c r n : ℕ) → a < 256 → b < 256 → c < 256 → n ≡ r * 16777216 + (a + 256 * b + 65536 * c) → le_bytes (suc (suc (suc w))) n ≡ a ∷ b ∷ c ∷ le_bytes w r
bytes-3 w a b c r n ha hb hc e =
    let f : n ≡ a + 256 * (b + 256 * (c + 256 * r)) = omega arith in
    rw (f, bytes_cons _ (b + 256 * (c + 256 * r)) a ha, bytes_cons _ (c + 256 * r) b hb, bytes_cons _ r c hc)

bytes_4 : (w a b c d r n : ℕ) → a < 256 → b < 256 → c < 256 → d < 256 → n ≡ r * 4294967296 + (a + 256 * b + 65536 * c + 16777216 * d) → le_bytes (suc (suc (suc (suc w)))) n ≡ a ∷ b ∷ c ∷ d ∷ le_bytes w r
bytes_4 w a b c d r n ha hb hc hd e =
    bytes-3 (suc w) a b c (d + 256 * r) n ha hb hc (omega arith) ∙ ap (λ (s : List ℕ). a ∷ b ∷ c ∷ s) (bytes_cons w r d hd)

-- the three lowest bytes of a number, and the four
low-3 : (x : ℕ) → x % 16777216 ≡ x % 256 + 256 * (x / 256 % 256) + 65536 * (x / 256 / 256 % 256)
low-3 x = omega arith

above-3 : (x : ℕ) → x / 16777216 ≡ x / 256 / 256 / 256
above-3 x = omega arith

low-4 : (x : ℕ) → x % 4294967296 ≡ x % 256 + 256 * (x / 256 % 256) + 65536 * (x / 256 / 256 % 256) + 16777216 * (x / 256 / 256 / 256 % 256)
low-4 x =
    let e : x % 4294967296 ≡ x % 16777216 + 16777216 * (x / 16777216 % 256) = omega arith in
    e ∙ ap₂ (λ (i j : ℕ). i + 16777216 * (j % 256)) (low-3 x) (above-3 x)

above-4 : (x : ℕ) → x / 4294967296 ≡ x / 256 / 256 / 256 / 256
above-4 x = omega (arith, above-3 x)

low-16 : (n b c : ℕ) → n ≡ b + 256 * c → n % 16 ≡ b % 16
low-16 n b c e = omega arith

-- ---- both halves of a word at once

-- the word v has the halves h and g
record Halves (v h g : ℕ) : Type 0 where
  is : v ≡ h * 4294967296 + g

plus : {v h g u i j : ℕ} → Halves v h g → Halves u i j → Halves (v + u) (h + i) (g + j)
plus a b = record { is = omega (arith, a.is, b.is) }

times : (h g k : ℕ) → (h * 4294967296 + g) * k ≡ h * k * 4294967296 + g * k
times h g k = add-mul (h * 4294967296) g k ∙ ap (λ (i : ℕ). i + g * k) (mul_right_comm h 4294967296 k)

by : (h g k d : ℕ) → 0 < d → (h * (k * d) * 4294967296 + g * (k * d)) / d ≡ h * k * 4294967296 + g * k
by h g k d l = rw (← mul_assoc h k d, ← mul_assoc g k d, ← times (h * k) (g * k) d) (mul-div_cancel (h * k * 4294967296 + g * k) l)

-- the j bits from the bit k on of both halves, moved up or down
module _ (g h : ℕ) (l : g < 4294967296) (j k : ℕ) (s : 2 ^ (j + k) - 2 ^ k < 4294967296) where
  abbrev masked : ℕ
  masked = bit_and (h * 4294967296 + g) ((2 ^ (j + k) - 2 ^ k) * 4294967296 + (2 ^ (j + k) - 2 ^ k))

  mask : masked ≡ h / 2 ^ k % 2 ^ j * 2 ^ k * 4294967296 + g / 2 ^ k % 2 ^ j * 2 ^ k
  mask = and_block 32 h (2 ^ (j + k) - 2 ^ k) g (2 ^ (j + k) - 2 ^ k) l s ∙ ap₂ (λ (p q : ℕ). p * 4294967296 + q) (and_high h j k) (and_high g j k)

  up : (m : ℕ) → Halves (masked * m) (h / 2 ^ k % 2 ^ j * 2 ^ k * m) (g / 2 ^ k % 2 ^ j * 2 ^ k * m)
  up m = record { is = ap (λ (i : ℕ). i * m) mask ∙ times _ _ m }

  down : (d m : ℕ) → 0 < d → 2 ^ k ≡ m * d → Halves (masked / d) (h / 2 ^ k % 2 ^ j * m) (g / 2 ^ k % 2 ^ j * m)
  down d m p e =
      record { is = ap (λ (i : ℕ). i / d) (mask ∙ ap (λ (i : ℕ). h / 2 ^ k % 2 ^ j * i * 4294967296 + g / 2 ^ k % 2 ^ j * i) e) ∙ by (h / 2 ^ k % 2 ^ j) (g / 2 ^ k % 2 ^ j) m d p }

-- ---- numbers of six bits of bytes

-- the two groups of three bytes, in halves of the word
abbrev pub groups : ℕ → ℕ
groups x = bit_and x 0xFFFFFF + bit_and x 0xFFFFFF000000 * 256

pub groups_fit : (x : ℕ) → groups x < 2 ^ 64
groups_fit x = omega (arith, and_le_r x 0xFFFFFF, and_le_r x 0xFFFFFF000000)

-- what `spread` adds up
abbrev pub spread_sum : ℕ → ℕ
spread_sum y =
    bit_and y 0x000000FC000000FC / 4
    + bit_and y 0x0000000300000003 * 4096
    + bit_and y 0x0000F0000000F000 / 16
    + bit_and y 0x00000F0000000F00 * 1024
    + bit_and y 0x00C0000000C00000 / 64
    + bit_and y 0x003F0000003F0000 * 256

pub spread-fits : (y : ℕ) → spread_sum y < 2 ^ 64
spread-fits y =
    omega
    (arith, and_le_r y 0x000000FC000000FC, and_le_r y 0x0000000300000003, and_le_r y 0x0000F0000000F000, and_le_r y 0x00000F0000000F00, and_le_r y 0x00C0000000C00000, and_le_r y 0x003F0000003F0000)

-- the same of one half
spread_half : ℕ → ℕ
spread_half g = g / 4 % 64 * 1 + g / 1 % 4 * 1 * 4096 + g / 4096 % 16 * 256 + g / 256 % 16 * 256 * 1024 + g / 4194304 % 4 * 65536 + g / 65536 % 64 * 65536 * 256

spread_halves : (g h : ℕ) → g < 4294967296 → Halves (spread_sum (h * 4294967296 + g)) (spread_half h) (spread_half g)
unfolding spread_half
spread_halves g h l =
    plus
    (plus
    (plus
    (plus
    (plus (down g h l 6 2 (omega arith) 4 1 (omega arith) refl) (up g h l 2 0 (omega arith) 4096))
    (down g h l 4 12 (omega arith) 16 256 (omega arith) refl))
    (up g h l 4 8 (omega arith) 1024))
    (down g h l 2 22 (omega arith) 64 65536 (omega arith) refl))
    (up g h l 6 16 (omega arith) 256)

spread-half : (g a b c : ℕ) → a < 256 → b < 256 → c < 256 → g ≡ a + 256 * b + 65536 * c
    → spread_half g ≡ a / 4 + 256 * (a % 4 * 16 + b / 16) + 65536 * (b % 16 * 4 + c / 64) + 16777216 * (c % 64)
unfolding spread_half
spread-half g a b c ha hb hc e =
    let q : g / 256 ≡ b + 256 * c = omega arith in
    let o : g / 65536 ≡ c = omega arith in
    let e1 : g / 4 % 64 ≡ a / 4 = omega arith in
    let e2 : g / 1 % 4 ≡ a % 4 = omega arith in
    let e3 : g / 4096 % 16 ≡ b / 16 = ap (λ (i : ℕ). i % 16) (sym (div-div-eq-div-mul g 256 16)) ∙ upper (g / 256) b c hb q in
    let e4 : g / 256 % 16 ≡ b % 16 = low-16 (g / 256) b c q in
    let e5 : g / 4194304 % 4 ≡ c / 64 = ap (λ (i : ℕ). i % 4) (sym (div-div-eq-div-mul g 65536 64) ∙ ap (λ (i : ℕ). i / 64) o) ∙ top c hc in
    rw (e1, e2, e3, e4, e5, o) (sum (a / 4) (a % 4) (b / 16) (b % 16) (c / 64) (c % 64))
  where
    upper : (n b c : ℕ) → b < 256 → n ≡ b + 256 * c → n / 16 % 16 ≡ b / 16
    upper n b c h e = omega arith

    top : (c : ℕ) → c < 256 → c / 64 % 4 ≡ c / 64
    top c h = omega arith

    sum : (p q r s t u : ℕ) → p * 1 + q * 1 * 4096 + r * 256 + s * 256 * 1024 + t * 65536 + u * 65536 * 256 ≡ p + 256 * (q * 16 + r) + 65536 * (s * 4 + t) + 16777216 * u
    sum p q r s t u = omega arith

pub spread-word : (x : ℕ) → le_bytes 8 (spread_sum (groups x)) ≡ sextets (le_bytes 6 x)
unfolding sextets le_bytes
spread-word x =
    let g = x % 16777216 in
    let h = x / 16777216 % 16777216 in
    let y : groups x ≡ h * 4294967296 + g = omega (arith, and_high x 24 0, and_high x 24 24) in
    let z = x / 256 / 256 / 256 in
    let t : h ≡ z % 256 + 256 * (z / 256 % 256) + 65536 * (z / 256 / 256 % 256) = ap (λ (i : ℕ). i % 16777216) (above-3 x) ∙ low-3 z in
    rw (y, (spread_halves g h (omega arith)).is) (go g h (x % 256) (x / 256 % 256) (x / 256 / 256 % 256) (z % 256) (z / 256 % 256) (z / 256 / 256 % 256) (byte_lt x) (byte_lt (x / 256)) (byte_lt (x / 256 / 256)) (byte_lt z) (byte_lt (z / 256)) (byte_lt (z / 256 / 256)) (low-3 x) t)
  where
    quarter : (a : ℕ) → a < 256 → a / 4 < 256
    quarter a h = omega arith

    upper : (a b : ℕ) → b < 256 → a % 4 * 16 + b / 16 < 256
    upper a b h = omega arith

    lower : (b c : ℕ) → c < 256 → b % 16 * 4 + c / 64 < 256
    lower b c h = omega arith

    last : (c : ℕ) → c % 64 < 256
    last c = omega arith

    go : (g h a b c d e f : ℕ) → a < 256 → b < 256 → c < 256 → d < 256 → e < 256 → f < 256 → g ≡ a + 256 * b + 65536 * c → h ≡ d + 256 * e + 65536 * f
        → le_bytes 8 (spread_half h * 4294967296 + spread_half g) ≡ sextets (a ∷ b ∷ c ∷ d ∷ e ∷ f ∷ [])
    go g h a b c d e f ha hb hc hd he hf eg eh =
        bytes_4 4 (a / 4) (a % 4 * 16 + b / 16) (b % 16 * 4 + c / 64) (c % 64) (spread_half h) (spread_half h * 4294967296 + spread_half g) (quarter a ha) (upper a b hb) (lower b c hc) (last c) (ap (λ (i : ℕ). spread_half h * 4294967296 + i) (spread-half g a b c ha hb hc eg))
        ∙ ap (λ (s : List ℕ). a / 4 ∷ (a % 4 * 16 + b / 16) ∷ (b % 16 * 4 + c / 64) ∷ c % 64 ∷ s) (bytes_4 0 (d / 4) (d % 4 * 16 + e / 16) (e % 16 * 4 + f / 64) (f % 64) 0 (spread_half h) (quarter d hd) (upper d e he) (lower e f hf) (last f) (spread-half h d e f hd he hf eh ∙ sym (zero-add _)))

-- ---- bytes of numbers of six bits

-- what `gather` adds up
abbrev pub gather_sum : ℕ → ℕ
gather_sum v =
    bit_and v 0x0000003F0000003F * 4
    + bit_and v 0x0000300000003000 / 4096
    + bit_and v 0x00000F0000000F00 * 16
    + bit_and v 0x003C0000003C0000 / 1024
    + bit_and v 0x0003000000030000 * 64
    + bit_and v 0x3F0000003F000000 / 256

pub gather_fits : (v : ℕ) → gather_sum v < 2 ^ 64
gather_fits v =
    omega
    (arith, and_le_r v 0x0000003F0000003F, and_le_r v 0x0000300000003000, and_le_r v 0x00000F0000000F00, and_le_r v 0x003C0000003C0000, and_le_r v 0x0003000000030000, and_le_r v 0x3F0000003F000000)

-- the same of one half
gather_half : ℕ → ℕ
gather_half g = g / 1 % 64 * 1 * 4 + g / 4096 % 4 * 1 + g / 256 % 16 * 256 * 16 + g / 262144 % 16 * 256 + g / 65536 % 4 * 65536 * 64 + g / 16777216 % 64 * 65536

gather_halves : (g h : ℕ) → g < 4294967296 → Halves (gather_sum (h * 4294967296 + g)) (gather_half h) (gather_half g)
unfolding gather_half
gather_halves g h l =
    plus
    (plus
    (plus
    (plus
    (plus (up g h l 6 0 (omega arith) 4) (down g h l 2 12 (omega arith) 4096 1 (omega arith) refl))
    (up g h l 4 8 (omega arith) 16))
    (down g h l 4 18 (omega arith) 1024 256 (omega arith) refl))
    (up g h l 2 16 (omega arith) 64))
    (down g h l 6 24 (omega arith) 256 65536 (omega arith) refl)

gather-half : (g i j k l : ℕ) → i < 256 → j < 256 → k < 256 → g ≡ i + 256 * j + 65536 * k + 16777216 * l
    → gather_half g ≡ (i % 64 * 4 + j / 16 % 4) + 256 * (j % 16 * 16 + k / 4 % 16) + 65536 * (k % 4 * 64 + l % 64)
unfolding gather_half
gather-half g i j k l hi hj hk e =
    let n : g / 256 ≡ j + 256 * (k + 256 * l) = omega arith in
    let m : g / 65536 ≡ k + 256 * l = omega arith in
    let o : g / 16777216 ≡ l = omega arith in
    let e1 : g / 1 % 64 ≡ i % 64 = omega arith in
    let e2 : g / 4096 % 4 ≡ j / 16 % 4 = ap (λ (i : ℕ). i % 4) (sym (div-div-eq-div-mul g 256 16)) ∙ upper (g / 256) j (k + 256 * l) hj n in
    let e3 : g / 256 % 16 ≡ j % 16 = low-16 (g / 256) j (k + 256 * l) n in
    let e4 : g / 262144 % 16 ≡ k / 4 % 16 = ap (λ (i : ℕ). i % 16) (sym (div-div-eq-div-mul g 65536 4)) ∙ middle (g / 65536) k l hk m in
    let e5 : g / 65536 % 4 ≡ k % 4 = lowest (g / 65536) k l m in
    rw (e1, e2, e3, e4, e5, o) (sum (i % 64) (j / 16 % 4) (j % 16) (k / 4 % 16) (k % 4) (l % 64))
  where
    upper : (n b c : ℕ) → b < 256 → n ≡ b + 256 * c → n / 16 % 4 ≡ b / 16 % 4
    upper n b c h e = omega arith

    middle : (n b c : ℕ) → b < 256 → n ≡ b + 256 * c → n / 4 % 16 ≡ b / 4 % 16
    middle n b c h e = omega arith

    lowest : (n b c : ℕ) → n ≡ b + 256 * c → n % 4 ≡ b % 4
    lowest n b c e = omega arith

    sum : (p q r s t u : ℕ) → p * 1 * 4 + q * 1 + r * 256 * 16 + s * 256 + t * 65536 * 64 + u * 65536 ≡ (p * 4 + q) + 256 * (r * 16 + s) + 65536 * (t * 64 + u)
    sum p q r s t u = omega arith

-- the three bytes of both halves, side by side
abbrev pub joined : ℕ → ℕ
joined w = bit_and w 0xFFFFFF + bit_and w 0x00FFFFFF00000000 / 256

pub joined-fits : (w : ℕ) → joined w < 2 ^ 64
joined-fits w = omega (arith, and_le_r w 0xFFFFFF, and_le_r w 0x00FFFFFF00000000)

join : (w t T : ℕ) → t < 16777216 → T < 16777216 → w ≡ T * 4294967296 + t → joined w ≡ T * 16777216 + t
join w t T l h e =
    let n : w / 1 % 16777216 ≡ t = omega arith in
    let m : w / 4294967296 ≡ T = omega arith in
    let o : T % 16777216 ≡ T = omega arith in
    rw (and_high w 24 0, and_high w 24 32, n, m, o) (omega arith)

pub gather_word : (v : ℕ) → v < 2 ^ 64 → le_bytes 6 (joined (gather_sum v)) ≡ octets (le_bytes 8 v)
unfolding octets le_bytes
gather_word v lv =
    let g = v % 4294967296 in
    let h = v / 4294967296 in
    let y : v ≡ h * 4294967296 + g = omega arith in
    let z = v / 256 / 256 / 256 / 256 in
    let s : h ≡ h % 4294967296 = omega arith in
    let t : h ≡ z % 256 + 256 * (z / 256 % 256) + 65536 * (z / 256 / 256 % 256) + 16777216 * (z / 256 / 256 / 256 % 256) = s ∙ ap (λ (i : ℕ). i % 4294967296) (above-4 v) ∙ low-4 z in
    let w : gather_sum v ≡ gather_half h * 4294967296 + gather_half g = ap gather_sum y ∙ (gather_halves g h (omega arith)).is in
    go (gather_sum v) g h (v % 256) (v / 256 % 256) (v / 256 / 256 % 256) (v / 256 / 256 / 256 % 256) (z % 256) (z / 256 % 256) (z / 256 / 256 % 256) (z / 256 / 256 / 256 % 256) (byte_lt v) (byte_lt (v / 256)) (byte_lt (v / 256 / 256)) (byte_lt z) (byte_lt (z / 256)) (byte_lt (z / 256 / 256)) (low-4 v) t w
  where
    first : (i j : ℕ) → i % 64 * 4 + j / 16 % 4 < 256
    first i j = omega arith

    next : (j k : ℕ) → j % 16 * 16 + k / 4 % 16 < 256
    next j k = omega arith

    last : (k l : ℕ) → k % 4 * 64 + l % 64 < 256
    last k l = omega arith

    three : (t a b c : ℕ) → a < 256 → b < 256 → c < 256 → t ≡ a + 256 * b + 65536 * c → t < 16777216
    three t a b c ha hb hc e = omega arith

    go : (w g h i j k l m n o p : ℕ) → i < 256 → j < 256 → k < 256 → m < 256 → n < 256 → o < 256 → g ≡ i + 256 * j + 65536 * k + 16777216 * l → h ≡ m + 256 * n + 65536 * o + 16777216 * p
        → w ≡ gather_half h * 4294967296 + gather_half g → le_bytes 6 (joined w) ≡ octets (i ∷ j ∷ k ∷ l ∷ m ∷ n ∷ o ∷ p ∷ [])
    go w g h i j k l m n o p hi hj hk hm hn ho eg eh ew =
        let t = gather-half g i j k l hi hj hk eg in
        let u = gather-half h m n o p hm hn ho eh in
        ap (le_bytes 6) (join w (gather_half g) (gather_half h) (three _ _ _ _ (first i j) (next j k) (last k l) t) (three _ _ _ _ (first m n) (next n o) (last o p) u) ew)
        ∙ bytes-3 3 (i % 64 * 4 + j / 16 % 4) (j % 16 * 16 + k / 4 % 16) (k % 4 * 64 + l % 64) (gather_half h) (gather_half h * 16777216 + gather_half g) (first i j) (next j k) (last k l) (ap (λ (q : ℕ). gather_half h * 16777216 + q) t)
        ∙ ap (λ (s : List ℕ). (i % 64 * 4 + j / 16 % 4) ∷ (j % 16 * 16 + k / 4 % 16) ∷ (k % 4 * 64 + l % 64) ∷ s) (bytes-3 0 (m % 64 * 4 + n / 16 % 4) (n % 16 * 16 + o / 4 % 16) (o % 4 * 64 + p % 64) 0 (gather_half h) (first m n) (next n o) (last o p) (u ∙ sym (zero-add _)))
