-- `text_formatter::symbol_id_length` meets its contract. Assumes nothing.
use native.Mathlib.Omega.{arith}
use Rattle.text_rules.specs.Text.{symbol_id_text}
use Rattle.text_rules.proofs.DigitLaws.{length_digits}
use Rattle.measure.proofs.text_formatter.symbol_id_length.Goals as goal

pub returns : goal.returns
unfolding symbol_id_text
returns c = omega (arith, length_digits c.args.n, c.digit_count.ensures.0)
