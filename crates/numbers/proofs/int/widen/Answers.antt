-- `numbers::int::widen` meets its contract. Assumes nothing.
use mathlib.Core.Path.{ap, ◌∙◌}
use native.Mathlib.Omega.{arith}
use lib.IntN.{ℤ}
use mir.Syntax.{w32, w64}
use mir.Val.{SFits, to_z, of_z}
use mir.ValLaws.{to_z-of_z}
use Rattle.numbers.proofs.int.widen.Goals as goal

pub overflow_cast-result : goal.overflow_cast-result
overflow_cast-result c = rw (to_z-of_z w32 c.args.n c.ranges.n) (record { sfits = omega (arith, c.ranges.n.sfits) })

pub returns : goal.returns
returns c =
    let f : SFits w64 c.args.n = record { sfits = omega (arith, c.ranges.n.sfits) } in
    ap (λ (z : ℤ). to_z w64 (of_z w64 z)) (to_z-of_z w32 c.args.n c.ranges.n) ∙ to_z-of_z w64 c.args.n f
