-- A scalar value is below hex 110000. Assumes nothing.
use mathlib.Core.Path.{◌≡◌, refl}
use mathlib.Core.Bool.{Bool, true, false, ◌&&◌, ◌||◌}
use Prim.Native.Nat.{ℕ, ◌<◌}
use native.Mathlib.Omega.{arith}
use lib.Dec.{leb, ltb}
use borrow.Author.Tests.{ltb-true}
use Rattle.characters.specs.Utf8.{is_scalar}

pub scalar-small : (v : ℕ) → is_scalar v ≡ true → v < 0x11_0000
unfolding is_scalar
scalar-small v e = go (ltb v 0xD800) refl (leb 0xE000 v) (ltb v 0x11_0000) refl e
  where
    go : (a : Bool) → ltb v 0xD800 ≡ a → (b c : Bool) → ltb v 0x11_0000 ≡ c → (a || b && c) ≡ true → v < 0x11_0000
    go true p b c r z = omega (arith, ltb-true v 0xD800 p)
    go false p true true r z = ltb-true v 0x11_0000 r
    go false p true false r z = absurd (let n : ◌≡◌ {A = ℕ} 0 1 = cc in omega arith)
    go false p false c r z = absurd (let n : ◌≡◌ {A = ℕ} 0 1 = cc in omega arith)
