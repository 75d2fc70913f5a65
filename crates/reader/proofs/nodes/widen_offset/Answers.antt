-- `nodes::widen_offset` meets its contract. Assumes nothing.
use mathlib.Core.Path.{ap, ◌∙◌}
use native.Mathlib.Omega.{arith}
use lib.IntN.{ℤ}
use mir.Syntax.{w16, w64}
use mir.Val.{SFits, to_z, of_z}
use mir.ValLaws.{to_z-of_z}
use Rattle.reader.proofs.nodes.widen_offset.Goals as goal

pub overflow_cast-result : goal.overflow_cast-result
overflow_cast-result c = rw (to_z-of_z w16 c.args.e c.ranges.e) (record { sfits = omega (arith, c.ranges.e.sfits) })

pub returns : goal.returns
returns c =
    let f : SFits w64 c.args.e = record { sfits = omega (arith, c.ranges.e.sfits) } in
    ap (λ (z : ℤ). to_z w64 (of_z w64 z)) (to_z-of_z w16 c.args.e c.ranges.e) ∙ to_z-of_z w64 c.args.e f
