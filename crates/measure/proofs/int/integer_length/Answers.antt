-- `measure::int::integer_length` meets its contract. Assumes nothing.
use mathlib.Core.Path.{◌≡◌, ap, ◌∙◌}
use Prim.Native.Nat.{suc}
use native.Mathlib.Omega.{arith}
use lib.IntN.{nat_abs}
use mir.Syntax.{w64}
use Rattle.text_rules.proofs.DigitLaws.{length_digits}
use Rattle.numbers.specs.Decimal.{int_text}
use Rattle.numbers.proofs.Signed.{below-zero, from_zero}
use Rattle.measure.proofs.int.integer_length.Goals as goal

pub returns-then-n-lt0 : goal.returns-then-n-lt0
unfolding int_text
returns-then-n-lt0 c =
    let b = below-zero w64 c.args.n c.ranges.n c.if-n-lt0.true in
    let s : c.size.result ≡ suc b.0 = c.size.ensures ∙ ap nat_abs b.3 in
    let d = rw s at c.digit_count-c.ensures in
    rw b.1 (omega (arith, d.0, length_digits (suc b.0)), omega (arith, d.2))

pub returns : goal.returns
unfolding int_text
returns c =
    let b = from_zero w64 c.args.n c.ranges.n c.if-n-lt0.false in
    let s : c.size.result ≡ b.0 = c.size.ensures ∙ ap nat_abs b.3 in
    let d = rw s at c.digit_count-c.ensures in
    rw b.1 (omega (arith, d.0, length_digits b.0), omega (arith, d.2))
