-- `escapes::is_raw` meets its contract. Assumes nothing.
use Prim.Native.Nat.{◌*◌, ◌/◌}
use mathlib.Core.Path.{sym}
use native.Mathlib.Omega.{arith}
use lib.Seq.{length-take-le}
use Rattle.output.proofs.Bools.{never}
use Rattle.measure.proofs.EscapeLengths.{raw-rest}
use Rattle.measure.proofs.escapes.is_raw.Goals as goal

pub returns-then-n-lt9 : goal.returns-then-n-lt9
returns-then-n-lt9 c = λ r. never (sym r)

pub slice_bounds-any_suspect-end : goal.slice_bounds-any_suspect-end
slice_bounds-any_suspect-end c = sym (length-take-le _ _ (omega (arith, c.requires)))

pub returns-then-any_suspect-ne0 : goal.returns-then-any_suspect-ne0
returns-then-any_suspect-ne0 c = λ r. never (sym r)

pub returns-then-m-n : goal.returns-then-m-n
returns-then-m-n c = λ r. rw c.if-m-n.true at (c.any_suspect.ensures (omega (arith, c.if-any_suspect-ne0.false)))

pub returns : goal.returns
returns c =
    let a = c.args in
    λ r. raw-rest a.s.now (a.n / 32 * 32) a.n (omega arith) (c.any_suspect.ensures (omega (arith, c.if-any_suspect-ne0.false))) (c.is_raw_at.ensures r)
