-- Signed numbers by their bits. Assumes nothing.
use Prim.Native.Nat.{ℕ, ◌%◌, ◌^◌, ◌<◌}
use mathlib.Core.Path.{◌≡◌, ap, ◌∙◌}
use native.Mathlib.Omega.{arith}
use lib.IntN.{ℤ, pos, negsuc}
use mir.Syntax.{w16, w32, w64}
use mir.Val.{SFits, to_z, of_z}
use mir.ValLaws.{to_z-of_z}
use Rattle.tape.specs.Bytes.{bits}

-- the low bits of a number that a narrower type holds
pub low-32 : (z : ℤ) → SFits w32 z → bits 64 z % 4294967296 ≡ bits 32 z
unfolding bits
low-32 (pos n) f = let h : n < 2 ^ 31 = f.sfits in omega arith
low-32 (negsuc n) f = let h : n < 2 ^ 31 = f.sfits in omega arith

pub low-16 : (z : ℤ) → SFits w16 z → bits 64 z % 65536 ≡ bits 16 z
unfolding bits
low-16 (pos n) f = let h : n < 2 ^ 15 = f.sfits in omega arith
low-16 (negsuc n) f = let h : n < 2 ^ 15 = f.sfits in omega arith

-- a number that went through the machine's bits, twice
pub through-32 : (r : ℕ) (y e : ℤ) → SFits w32 e → y ≡ to_z w32 (of_z w32 e) → r ≡ bits 64 (to_z w64 (of_z w64 y)) → r % 4294967296 ≡ bits 32 e
through-32 r y e f h g =
    let w : SFits w64 e = record { sfits = omega (arith, f.sfits) } in
    ap (λ (n : ℕ). n % 4294967296) (g ∙ ap (λ (z : ℤ). bits 64 (to_z w64 (of_z w64 z))) (h ∙ to_z-of_z w32 e f) ∙ ap (bits 64) (to_z-of_z w64 e w)) ∙ low-32 e f

pub through-16 : (r : ℕ) (y e : ℤ) → SFits w16 e → y ≡ to_z w16 (of_z w16 e) → r ≡ bits 64 (to_z w64 (of_z w64 y)) → r % 65536 ≡ bits 16 e
through-16 r y e f h g =
    let w : SFits w64 e = record { sfits = omega (arith, f.sfits) } in
    ap (λ (n : ℕ). n % 65536) (g ∙ ap (λ (z : ℤ). bits 64 (to_z w64 (of_z w64 z))) (h ∙ to_z-of_z w16 e f) ∙ ap (bits 64) (to_z-of_z w64 e w)) ∙ low-16 e f
