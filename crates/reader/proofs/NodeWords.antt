-- The bytes of a timestamp's node as two numbers. Assumes nothing.
use mathlib.Core.Path.{◌≡◌, ap, ◌∙◌}
use mathlib.Core.List.{List, [], ◌∷◌, ◌++◌, append_assoc}
use Prim.Native.Nat.{ℕ, ◌+◌, ◌*◌, ◌/◌, ◌%◌, ◌<◌}
use native.Mathlib.Omega.{arith}
use lib.IntN.{ℤ}
use mir.Syntax.{w16}
use mir.Val.{SFits, to_z, of_z}
use mir.ValLaws.{to_z-of_z}
use Rattle.output.specs.Wrote.{le_bytes}
use Rattle.output.proofs.Words.{le-sum, le-above}
use Rattle.numbers.specs.declared.timestamp.Timestamp.{Timestamp}
use Rattle.tape.specs.Bytes.{bits}
use Rattle.tape.specs.Tree.{timestamp, encode_scalar, encode_timestamp}
use Rattle.tape.proofs.Numbers.{bits_bound}

pub date-bytes : (p y m d h i s : ℕ) → p < 256 → y < 65536 → m < 256 → d < 256 → h < 256 → i < 256 → s < 256
    → le_bytes 8 (p + 256 * y + 16777216 * m + 4294967296 * d + 1099511627776 * h + 281474976710656 * i + 72057594037927936 * s) ≡ p ∷ (le_bytes 2 y ++ (m ∷ d ∷ h ∷ i ∷ s ∷ []))
unfolding le_bytes
date-bytes p y m d h i s lp ly lm ld lh li ls =
    let a = y % 256 in
    let b = y / 256 % 256 in
    let e : p + 256 * y + 16777216 * m + 4294967296 * d + 1099511627776 * h + 281474976710656 * i + 72057594037927936 * s ≡ p + 256 * a + 65536 * b + 16777216 * m + 4294967296 * d + 1099511627776 * h + 281474976710656 * i + 72057594037927936 * s = omega arith in
    ap (le_bytes 8) e ∙ le-sum p a b m d h i s lp (omega arith) (omega arith) lm ld lh li ls

pub offset_bytes : (o g f : ℕ) → o < 65536 → g < 256 → le_bytes 7 (o + 65536 * g + 16777216 * f) ≡ le_bytes 2 o ++ (g ∷ le_bytes 4 f)
offset_bytes o g f lo lg =
    let e : o + 65536 * g + 16777216 * f ≡ o + 65536 * (g + 256 * f) = omega arith in
    ap (le_bytes 7) e ∙ le-above 2 5 o (g + 256 * f) lo ∙ ap (λ (l : List ℕ). le_bytes 2 o ++ l) (le-above 1 4 g f lg ∙ ap (λ (l : List ℕ). l ++ le_bytes 4 f) (byte_alone g lg))
  where
    byte_alone : (n : ℕ) → n < 256 → le_bytes 1 n ≡ n ∷ []
    byte_alone n h = unfold le_bytes in ap (λ (k : ℕ). k ∷ []) (let z : n % 256 ≡ n = omega arith in z)

-- the bits of an offset that went through the machine's
pub offset_bits : (r : ℕ) (z : ℤ) → SFits w16 z → r ≡ bits 16 (to_z w16 (of_z w16 z)) → (r ≡ bits 16 z) × (r < 65536)
offset_bits r z f h = let e = h ∙ ap (bits 16) (to_z-of_z w16 z f) in (e, rw e (bits_bound w16 z f))

pub timestamp-bytes : (x : Timestamp) (a b : ℕ) → le_bytes 8 a ≡ x.precision ∷ (le_bytes 2 x.year ++ (x.month ∷ x.day ∷ x.hour ∷ x.minute ∷ x.second ∷ []))
    → le_bytes 7 b ≡ le_bytes 2 (bits 16 x.offset) ++ (x.digits ∷ le_bytes 4 x.fraction) → (5 ∷ le_bytes 8 a) ++ le_bytes 7 b ≡ encode_scalar (timestamp x)
unfolding encode_scalar encode_timestamp
timestamp-bytes x a b e f =
    let t = le_bytes 2 (bits 16 x.offset) ++ (x.digits ∷ le_bytes 4 x.fraction) in
    rw (e, f) (ap (λ (l : List ℕ). 5 ∷ x.precision ∷ l) (append_assoc (le_bytes 2 x.year) (x.month ∷ x.day ∷ x.hour ∷ x.minute ∷ x.second ∷ []) t))
