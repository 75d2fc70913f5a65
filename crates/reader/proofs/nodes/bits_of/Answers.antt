-- `nodes::bits_of` meets its contract. Assumes nothing.
use native.Mathlib.Omega.{arith}
use mathlib.Core.Path.{sym, ap, ◌∙◌}
use lib.IntN.{nat_abs}
use mir.Syntax.{w64}
use Rattle.numbers.proofs.Signed.{below-zero, from_zero, inverted}
use Rattle.tape.specs.Bytes.{bits}
use Rattle.reader.proofs.nodes.bits_of.Goals as goal

pub overflow_cast-result : goal.overflow_cast-result
overflow_cast-result c =
    let b = below-zero w64 c.args.n c.ranges.n c.if-n-lt0.true in
    rw (b.1, inverted b.0 b.2) (tt, record { fits = omega (arith, b.2) })

pub overflow_sub-result : goal.overflow_sub-result
overflow_sub-result c =
    let b = below-zero w64 c.args.n c.ranges.n c.if-n-lt0.true in
    rw (b.1, inverted b.0 b.2) (omega (arith, b.2))

pub overflow_cast-result-else-n-lt0 : goal.overflow_cast-result-else-n-lt0
overflow_cast-result-else-n-lt0 c =
    let b = from_zero w64 c.args.n c.ranges.n c.if-n-lt0.false in
    rw b.3 (tt, record { fits = omega (arith, b.2) })

pub returns-then-n-lt0 : goal.returns-then-n-lt0
unfolding bits
returns-then-n-lt0 c =
    let b = below-zero w64 c.args.n c.ranges.n c.if-n-lt0.true in
    rw (b.1, inverted b.0 b.2) (omega (arith, b.2))

pub returns-else-n-lt0 : goal.returns-else-n-lt0
unfolding bits
returns-else-n-lt0 c =
    let b = from_zero w64 c.args.n c.ranges.n c.if-n-lt0.false in
    ap nat_abs b.3 ∙ sym (ap (bits 64) b.1)
