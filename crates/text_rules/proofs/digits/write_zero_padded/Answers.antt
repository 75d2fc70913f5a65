-- `digits::write_zero_padded` meets its contract. Assumes nothing.
use mathlib.Core.Path.{sym}
use native.Mathlib.Omega.{arith}
use Rattle.text_rules.proofs.DigitCode.{zero-padded_long, zero-padded_short}
use Rattle.text_rules.proofs.digits.write_zero_padded.Goals as goal

pub returns-then-w-digit_count : goal.returns-then-w-digit_count
returns-then-w-digit_count c =
    let a = c.args in
    rw (sym (zero-padded_long a.w a.n (omega (arith, c.digit_count.ensures.0, c.if-w-digit_count.true)))) at c.put_digits.ensures

pub returns-else-w-digit_count : goal.returns-else-w-digit_count
returns-else-w-digit_count c =
    let a = c.args in
    rw (sym (zero-padded_short a.w a.n (omega arith) (omega (arith, c.digit_count.ensures.0, c.if-w-digit_count.false)))) at c.put_padded.ensures
