-- Laws of the bits of floats. Assumes nothing.
use mathlib.Core.Path.{◌≡◌, refl, sym, subst, ◌∙◌}
use mathlib.Core.Bool.{Bool, true, false, not}
use Prim.Native.Nat.{ℕ, ◌%◌, ◌≤◌}
use native.Mathlib.Omega.{arith}
use lib.Dec.{T}
use lib.Ieee.{Float, nan, inf, fin, binary64, fits, of_bits, to_bits, is_nan, nan_bits, ne, eq}
use lib.Ieee.Bits.{nan_bits_above, of_bits-to_bits}
use lib.Ieee.Compare.{differs_from_itself}
use borrow.Author.Tests.{le-ltb}

-- a pattern whose magnitude is at most that of an infinity is no NaN's
pub no_nan : (b : ℕ) → b % 0x8000_0000_0000_0000 ≤ 0x7FF0_0000_0000_0000 → T (not (nan_bits binary64 b))
no_nan b h = subst (λ (t : Bool). T (not t)) (sym (nan_bits_above binary64 b ∙ le-ltb 0x7FF0_0000_0000_0000 (b % 0x8000_0000_0000_0000) h)) tt

-- what equals itself is no NaN
pub self : (x : Float) → ne x x ≡ false → T (not (is_nan x))
unfolding ne eq is_nan
self nan e = let z : ◌≡◌ {A = ℕ} 0 1 = cc in omega arith
self (inf s) e = tt
self (fin s m d) e = tt

pub other : (x : Float) → ne x x ≡ true → x ≡ nan
other x e = differs_from_itself x (subst T (sym e) tt)

pub not-nan : (x : Float) → T (not (is_nan x)) → is_nan x ≡ false
unfolding is_nan
not-nan nan t = absurd t
not-nan (inf s) t = refl
not-nan (fin s m d) t = refl

-- a float that fits is the one of its bits
pub bits_of_it : (x : Float) → fits binary64 x ≡ true → of_bits binary64 (to_bits binary64 x) ≡ x
bits_of_it x e = of_bits-to_bits binary64 x (subst T (sym e) tt)
