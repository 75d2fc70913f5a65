-- `numbers::decimal::format_text` meets its contract. Assumes nothing.
use Prim.Native.Nat.{suc}
use mathlib.Core.Path.{◌≡◌, ap, ◌∙◌}
use native.Mathlib.Omega.{arith}
use lib.IntN.{nat_abs}
use mir.Syntax.{w32}
use Rattle.numbers.proofs.Signed.{below-zero, from_zero}
use Rattle.numbers.proofs.DecimalLaws.{text_below, text_above, signed}
use Rattle.numbers.proofs.decimal.format_text.Goals as goal

pub put_below-requires : goal.put_below-requires
put_below-requires c =
    let b = below-zero w32 c.args.exponent c.ranges.exponent c.if-exponent-lt0.true in
    let s : c.from-e.result ≡ suc b.0 = c.from-e.ensures ∙ c.unsigned_abs.ensures.value ∙ ap nat_abs b.3 in
    let w = c.digit_count-w.ensures in
    (w.0, w.2, w.1, omega arith, omega (arith, b.2))

pub returns-then-exponent-lt0 : goal.returns-then-exponent-lt0
returns-then-exponent-lt0 c =
    let x = c.args in
    let b = below-zero w32 x.exponent c.ranges.exponent c.if-exponent-lt0.true in
    let s : c.from-e.result ≡ suc b.0 = c.from-e.ensures ∙ c.unsigned_abs.ensures.value ∙ ap nat_abs b.3 in
    rw (b.1, text_below x.negative x.magnitude c.digit_count-w.result b.0 c.digit_count-w.ensures.0) (signed x.negative c.put_sign-p.ensures.minus c.put_sign-p.ensures.nothing (rw s at c.put_below.ensures))

pub returns : goal.returns
returns c =
    let x = c.args in
    let b = from_zero w32 x.exponent c.ranges.exponent c.if-exponent-lt0.false in
    let s : c.from-e.result ≡ b.0 = c.from-e.ensures ∙ c.unsigned_abs.ensures.value ∙ ap nat_abs b.3 in
    rw (b.1, text_above x.negative x.magnitude c.digit_count-w.result b.0 c.digit_count-w.ensures.0) (signed x.negative c.put_sign-p.ensures.minus c.put_sign-p.ensures.nothing (rw s at c.put_above.ensures))
