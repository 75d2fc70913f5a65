-- `measure::decimal::decimal_length` meets its contract. Assumes nothing.
use Prim.Native.Nat.{suc}
use mathlib.Core.Path.{◌≡◌, ap, ◌∙◌}
use native.Mathlib.Omega.{arith}
use lib.IntN.{pos, negsuc, nat_abs}
use lib.ListN.{length-append}
use mir.Syntax.{w32, w64}
use mir.Val.{SFits}
use Rattle.text_rules.specs.Digits.{digits}
use Rattle.numbers.specs.Decimal.{sign, above, below}
use Rattle.numbers.proofs.Signed.{below-zero, from_zero, read_back}
use Rattle.numbers.proofs.DecimalLaws.{text_below, text_above}
use Rattle.measure.proofs.decimal.decimal_length.Goals as goal

pub below_length-requires : goal.below_length-requires
below_length-requires c =
    let b = below-zero w32 c.args.exponent c.ranges.exponent c.if-exponent-lt0.true in
    let f : SFits w64 (negsuc b.0) = record { sfits = omega (arith, b.2) } in
    let s : c.size-e.result ≡ suc b.0 = c.size-e.ensures ∙ ap nat_abs (read_back w64 c.widen.result (negsuc b.0) (c.widen.ensures ∙ b.3) f) in
    let w = c.digit_count-w.ensures in
    (w.0, w.2, w.1, omega arith, omega (arith, b.2))

pub returns-then-exponent-lt0 : goal.returns-then-exponent-lt0
returns-then-exponent-lt0 c =
    let x = c.args in
    let b = below-zero w32 x.exponent c.ranges.exponent c.if-exponent-lt0.true in
    let f : SFits w64 (negsuc b.0) = record { sfits = omega (arith, b.2) } in
    let s : c.size-e.result ≡ suc b.0 = c.size-e.ensures ∙ ap nat_abs (read_back w64 c.widen.result (negsuc b.0) (c.widen.ensures ∙ b.3) f) in
    let w = c.digit_count-w.result in
    let l = rw s at c.below_length.ensures in
    rw (b.1, text_below x.negative x.magnitude w b.0 c.digit_count-w.ensures.0)
    (omega (arith, c.sign_length-s.ensures.0, l.0, length-append (sign x.negative) (below (digits x.magnitude) w (suc b.0))))

pub returns : goal.returns
returns c =
    let x = c.args in
    let b = from_zero w32 x.exponent c.ranges.exponent c.if-exponent-lt0.false in
    let f : SFits w64 (pos b.0) = record { sfits = omega (arith, b.2) } in
    let s : c.size-e.result ≡ b.0 = c.size-e.ensures ∙ ap nat_abs (read_back w64 c.widen.result (pos b.0) (c.widen.ensures ∙ b.3) f) in
    let w = c.digit_count-w.result in
    let l = rw s at c.above_length.ensures in
    rw (b.1, text_above x.negative x.magnitude w b.0 c.digit_count-w.ensures.0)
    (omega (arith, c.sign_length-s.ensures.0, l.0, length-append (sign x.negative) (above (digits x.magnitude) w b.0)))
