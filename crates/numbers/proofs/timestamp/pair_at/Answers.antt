-- `timestamp::pair_at` meets its contract. Assumes nothing.
use mathlib.Core.Path.{sym, ◌∙◌}
use native.Mathlib.Omega.{arith}
use Rattle.text_rules.proofs.DigitLaws.{digit_range}
use Rattle.numbers.proofs.TimestampUsual.{pair_read}
use Rattle.numbers.proofs.timestamp.pair_at.Goals as goal

pub overflow_sub-result : goal.overflow_sub-result
overflow_sub-result c = (digit_range _ (sym c.is_digit.ensures ∙ c.if-not-is_digit.false)).0

pub overflow_mul-result : goal.overflow_mul-result
overflow_mul-result c = record { fits = omega (arith, digit_range _ (sym c.is_digit.ensures ∙ c.if-not-is_digit.false)) }

pub overflow_sub-result-2 : goal.overflow_sub-result-2
overflow_sub-result-2 c = (digit_range _ (sym c.is_digit-else-not-is_digit.ensures ∙ c.if-not-is_digit-2.false)).0

pub overflow_add-result : goal.overflow_add-result
overflow_add-result c =
    let a = digit_range _ (sym c.is_digit.ensures ∙ c.if-not-is_digit.false) in
    let b = digit_range _ (sym c.is_digit-else-not-is_digit.ensures ∙ c.if-not-is_digit-2.false) in
    record { fits = omega (arith, a, b) }

pub returns : goal.returns
returns c =
    let x = c.args in
    pair_read x.text.now x.at (omega arith) (sym c.is_digit.ensures ∙ c.if-not-is_digit.false) (sym c.is_digit-else-not-is_digit.ensures ∙ c.if-not-is_digit-2.false)
