-- A well-formed timestamp's fields of several bytes are in their machine ranges. Assumes nothing.
use Prim.Native.Nat.{ℕ, ◌^◌, ◌<◌, ◌≤◌}
use mathlib.Core.Path.{◌≡◌, refl}
use mathlib.Core.Bool.{Bool, true, false}
use native.Mathlib.Omega.{arith}
use native.Mathlib.Nat.{pow-le-pow_right}
use lib.Dec.{eqb, lit<}
use lib.IntN.{ℤ, pos, negsuc}
use mir.Syntax.{w16}
use mir.Val.{SFits}
use borrow.Author.Tests.{eqb-true}
use Rattle.numbers.specs.Timestamp.{unknown, offset_well, well_formed}
use Rattle.numbers.specs.declared.timestamp.Timestamp.{Timestamp}
use Rattle.numbers.proofs.Calendar.{west-small, east_small, fields, small}

pub record Ranges (x : Timestamp) : Type 0 where
  pub year_u16 : x.year < 2 ^ 16
  pub offset_i16 : SFits w16 x.offset
  pub fraction-u32 : x.fraction < 2 ^ 32

offset_fits : (p : ℕ) (z : ℤ) → offset_well p z ≡ true → SFits w16 z
offset_fits p (negsuc m) h = record { sfits = omega (arith, west-small p m h) }
offset_fits p (pos m) h = record { sfits = go (eqb m unknown) refl }
  where
    go : (b : Bool) → eqb m unknown ≡ b → m < 2 ^ 15
    go true e = let q : m ≡ unknown = eqb-true _ _ e in omega arith
    go false e = omega (arith, east_small p m h e)

pub well_ranges : (x : Timestamp) → well_formed x ≡ true → Ranges x
well_ranges x h =
    let f = fields x h in
    let s = small x f in
    let w : 10 ^ x.digits ≤ 10 ^ 9 = pow-le-pow_right (lit< tt) s.digits in
    record { year_u16 = omega arith; offset_i16 = offset_fits x.precision x.offset f.offset; fraction-u32 = omega arith }
