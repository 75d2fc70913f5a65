-- `numbers::int::minus` meets its contract. Assumes nothing.
use Prim.Native.Nat.{suc, ◌-◌, ◌^◌}
use mathlib.Core.Path.{◌≡◌, ap, ◌∙◌}
use native.Mathlib.Omega.{arith}
use mir.Syntax.{w64}
use mir.Val.{to_z}
use mir.ValLaws.{to_z-neg}
use Rattle.numbers.proofs.int.minus.Goals as goal

pub returns : goal.returns
returns c =
    let i : 18446744073709551615 - c.args.n ≡ 2 ^ 64 - suc c.args.n = omega arith in
    ap (to_z w64) i ∙ to_z-neg w64 c.args.n c.requires
