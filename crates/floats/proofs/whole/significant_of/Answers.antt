-- `floats::whole::significant_of` meets its contract. Assumes nothing.
use mathlib.Core.Path.{◌∙◌}
use Prim.Native.Nat.{◌/◌}
use native.Mathlib.Omega.{arith}
use Rattle.floats.proofs.WholeLaws.{trim}
use Rattle.floats.proofs.whole.significant_of.Goals as goal

pub returns-then-n-eq0 : goal.returns-then-n-eq0
returns-then-n-eq0 c =
    let n = c.args.n in
    (trim n (n / 100000000) 8 c.requires c.ranges.n.fits (omega (arith, c.if-n-eq0.true))).1 ∙ c.trimmed.ensures
