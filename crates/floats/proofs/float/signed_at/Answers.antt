-- `floats::float::signed_at` meets its contract. Assumes nothing.
use mathlib.Core.Path.{sym, subst}
use mathlib.Core.Bool.{not}
use Prim.Native.Nat.{ℕ}
use lib.Dec.{T}
use lib.Ieee.{binary64, nan_bits}
use Rattle.text_rules.proofs.ReadingLaws.{refused}
use Rattle.floats.proofs.WholeOnce.{whole_once}
use Rattle.floats.proofs.ValueBits.{whole_pattern}
use Rattle.floats.proofs.FloatLaws.{signed-none, signed-some}
use Rattle.floats.proofs.float.signed_at.Goals as goal

pub returns-in_err-n : goal.returns-in_err-n
returns-in_err-n c =
    let v = c.in_err-n.ensures in
    rw c.from_residual.ensures (refused (signed-none _ _ v.is))

pub bits_of-requires : goal.bits_of-requires
bits_of-requires c =
    let v = c.in_ok-n.ensures in
    (whole_once _ _ _ v.is).1

pub float_from_bits-result : goal.float_from_bits-result
float_from_bits-result c =
    let v = c.in_ok-n.ensures in
    subst (λ (b : ℕ). T (not (nan_bits binary64 b))) (sym c.bits_of.ensures) (whole_pattern _ _ (whole_once _ _ _ v.is).1)

pub returns : goal.returns
returns c =
    let v = c.in_ok-n.ensures in
    signed-some _ _ v c.bits_of.ensures
