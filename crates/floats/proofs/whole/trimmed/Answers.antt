-- `floats::whole::trimmed` meets its contract. The invariant: a trailing zero less has the same significant digits. Assumes nothing.
use mathlib.Core.Path.{refl, ◌∙◌}
use Prim.Native.Nat.{◌/◌}
use native.Mathlib.Omega.{arith}
use Rattle.floats.proofs.WholeDigits.{significant-digits}
use Rattle.floats.proofs.WholeLaws.{trim}
use Rattle.floats.proofs.whole.trimmed.Goals as goal

pub loop-m-init : goal.loop-m-init
loop-m-init c = (c.requires, c.ranges.n.fits, refl)

pub loop-m-smaller : goal.loop-m-smaller
loop-m-smaller c = omega (arith, c.loop-m.invariant.0)

pub loop-m-preserved : goal.loop-m-preserved
loop-m-preserved c =
    let m = c.loop-m.m in
    let i = c.loop-m.invariant in
    let t = trim m (m / 10) 1 i.0 i.1 (omega arith) in
    (t.0, omega (arith, i.1), i.2 ∙ t.1)

pub returns : goal.returns
returns c = c.loop-m.invariant.2 ∙ significant-digits c.loop-m.m (omega arith)
