-- Numbers in bytes, for every width: bytes to a number and back, and signed numbers. Assumes nothing.
use Prim.Native.Nat.{ℕ, zero, suc, ◌+◌, ◌*◌, ◌-◌, ◌/◌, ◌%◌, ◌^◌, ◌<◌, ◌≤◌}
use mathlib.Core.Path.{◌≡◌, refl, sym, ap, subst, ◌∙◌}
use mathlib.Core.List.{List, [], ◌∷◌, ◌++◌}
use mathlib.Core.Bool.{Bool, true, false, not}
use native.Mathlib.Nat.{pow-suc}
use native.Mathlib.Decide.{dec_lt}
use native.Mathlib.Omega.{arith}
use lib.Dec.{T, ltb, lit<}
use lib.Ieee.{nan, binary64, of_bits, to_bits, is_nan}
use lib.Ieee.Bits.{nan_bits_above, nan_bits_is, to_bits-of_bits}
use lib.IntN.{ℤ, pos, negsuc}
use lib.ListN.{length, get_or, take, drop, length-take, get_or-eq_default}
use lib.Seq.{get_or-drop, get_or-take}
use mir.Syntax.{Width, w8, w16, w32, w64, w128}
use mir.Val.{SFits, sel, to_z, of_z}
use mir.Val.{bits as width_of}
use mir.ValLaws.{to_z-of_z, of_z-to_z, to_z-Fits, of_z_fits}
use borrow.Author.Tests.{le-ltb, ltb-false}
use Rattle.output.specs.Logic.{if}
use Rattle.output.specs.Wrote.{le_bytes}
use Rattle.floats.proofs.FloatsBits.{not-nan}
use Rattle.tape.specs.Bytes.{le_number, signed, bits}
use Rattle.tape.specs.Tree.{float_bits}
use Rattle.tape.specs.Fine.{Bytes}

-- ---- bytes

pub bytes_drop : (n : ℕ) (l : List ℕ) → Bytes l → Bytes (drop n l)
bytes_drop n l b i = rw (get_or-drop n l i 0) (b (n + i))

pub bytes_take : (n : ℕ) (l : List ℕ) → Bytes l → Bytes (take n l)
bytes_take n l b i = go (dec_lt i n)
  where
    go : Dec (i < n) → get_or (take n l) i 0 < 256
    go (yes h) = rw (get_or-take n l i 0 h) (b i)
    go (no h) = let e = length-take n l in rw (get_or-eq_default (take n l) 0 {n = i} (omega arith)) (omega arith)

-- ---- the lowest byte first

pub le_bound : (w : ℕ) (l : List ℕ) → Bytes l → le_number w l < 256 ^ w
unfolding le_number
le_bound zero l b = lit< tt
le_bound (suc w) l b =
    let p : le_number w (drop 1 l) < 256 ^ w = le_bound w (drop 1 l) (bytes_drop 1 l b) in
    let x = b 0 in
    rw (pow-suc 256 w) (omega arith)

pub le_back : (w : ℕ) (l : List ℕ) → Bytes l → w ≤ length l → le_bytes w (le_number w l) ≡ take w l
unfolding le_number le_bytes
le_back zero l b h = refl
le_back (suc w) [] b h = absurd (omega arith)
le_back (suc w) (x ∷ l) b h =
    let n : ℕ = le_number w l in
    let c = b 0 in
    let m : (x + 256 * n) % 256 ≡ x = omega arith in
    let q : (x + 256 * n) / 256 ≡ n = omega arith in
    rw (m, q) (ap (λ (r : List ℕ). x ∷ r) (le_back w l (λ i. b (suc i)) (omega arith)))

pub le-number : (w n : ℕ) (r : List ℕ) → n < 256 ^ w → le_number w (le_bytes w n ++ r) ≡ n
unfolding le_number le_bytes
le-number zero n r h = omega arith
le-number (suc w) n r h =
    let g : n < 256 ^ w * 256 = subst (λ (i : ℕ). n < i) (pow-suc 256 w) h in
    let q : n / 256 < 256 ^ w = omega arith in
    rw (le-number w (n / 256) r q) (omega arith)

-- no byte behind the first w counts
pub le_take : (w m : ℕ) (l : List ℕ) → w ≤ m → le_number w (take m l) ≡ le_number w l
unfolding le_number
le_take zero m l h = refl
le_take (suc w) zero l h = absurd (omega arith)
le_take (suc w) (suc m) [] h = refl
le_take (suc w) (suc m) (x ∷ l) h = ap (λ (i : ℕ). x + 256 * i) (le_take w m l (omega arith))

-- ---- signed numbers: the definitions are the machine's

sel-is : (t : Bool) (x y : ℤ) → if t x y ≡ sel t x y
sel-is true x y = refl
sel-is false x y = refl

pub signed_is : (w : Width) (b : ℕ) → signed (width_of w) b ≡ to_z w b
unfolding signed
signed_is w8 b = sel-is (ltb b (2 ^ 7)) (pos b) (negsuc (2 ^ 8 - suc b))
signed_is w16 b = sel-is (ltb b (2 ^ 15)) (pos b) (negsuc (2 ^ 16 - suc b))
signed_is w32 b = sel-is (ltb b (2 ^ 31)) (pos b) (negsuc (2 ^ 32 - suc b))
signed_is w64 b = sel-is (ltb b (2 ^ 63)) (pos b) (negsuc (2 ^ 64 - suc b))
signed_is w128 b = sel-is (ltb b (2 ^ 127)) (pos b) (negsuc (2 ^ 128 - suc b))

pub bits_is : (w : Width) (z : ℤ) → bits (width_of w) z ≡ of_z w z
unfolding bits
bits_is w (pos n) = refl
bits_is w (negsuc n) = refl

pub bits-signed : (w : Width) (b : ℕ) → b < 2 ^ width_of w → bits (width_of w) (signed (width_of w) b) ≡ b
bits-signed w b h = rw (signed_is w b, bits_is w (to_z w b)) (of_z-to_z w b (record { fits = h }))

pub signed-bits : (w : Width) (z : ℤ) → SFits w z → signed (width_of w) (bits (width_of w) z) ≡ z
signed-bits w z h = rw (bits_is w z, signed_is w (of_z w z)) (to_z-of_z w z h)

pub signed-fits : (w : Width) (b : ℕ) → b < 2 ^ width_of w → SFits w (signed (width_of w) b)
signed-fits w b h = rw (signed_is w b) (to_z-Fits w b (record { fits = h }))

pub bits_bound : (w : Width) (z : ℤ) → SFits w z → bits (width_of w) z < 2 ^ width_of w
bits_bound w z h = rw (bits_is w z) (of_z_fits w z h).fits

-- ---- floats: what is made of bits has those bits, if they are no NaN's; the one NaN has its one pattern

-- a pattern whose magnitude is at most that of an infinity is no NaN's
pub of_bits-not-nan : (b : ℕ) → b % 0x8000_0000_0000_0000 ≤ 0x7FF0_0000_0000_0000 → T (not (is_nan (of_bits binary64 b)))
of_bits-not-nan b h =
    let e : is_nan (of_bits binary64 b) ≡ false = sym (nan_bits_is binary64 b) ∙ nan_bits_above binary64 b ∙ le-ltb 0x7FF0_0000_0000_0000 (b % 0x8000_0000_0000_0000) h in
    subst (λ (t : Bool). T (not t)) (sym e) tt

-- and the other way round
pub not-nan-low : (b : ℕ) → is_nan (of_bits binary64 b) ≡ false → b % 0x8000_0000_0000_0000 ≤ 0x7FF0_0000_0000_0000
not-nan-low b e = ltb-false _ _ (sym (nan_bits_above binary64 b) ∙ nan_bits_is binary64 b ∙ e)

pub to-bits_of : (b : ℕ) → b < 2 ^ 64 → b % 0x8000_0000_0000_0000 ≤ 0x7FF0_0000_0000_0000 → to_bits binary64 (of_bits binary64 b) ≡ b
to-bits_of b h k = to_bits-of_bits binary64 b h (of_bits-not-nan b k)

pub float-bits_of : (b : ℕ) → b < 2 ^ 64 → b % 0x8000_0000_0000_0000 ≤ 0x7FF0_0000_0000_0000 → float_bits (of_bits binary64 b) ≡ b
unfolding float_bits
float-bits_of b h k = simp (not-nan (of_bits binary64 b) (of_bits-not-nan b k), to-bits_of b h k)

pub float-bits-nan : float_bits nan ≡ 0x7FF8_0000_0000_0000
unfolding float_bits is_nan
float-bits-nan = refl
