-- `digits::zeros8` meets its contract. Assumes nothing.
use mathlib.Core.Path.{refl}
use native.Mathlib.Omega.{arith}
use lib.Bits.{bit_or}
use lib.Count.{trailing_le}
use Rattle.text_rules.proofs.DigitWords.{zeros-count}
use Rattle.text_rules.proofs.digits.zeros8.Goals as goal

pub overflow_cast-result : goal.overflow_cast-result
overflow_cast-result c = omega (arith, trailing_le 64 (bit_or c.args.d 72057594037927936))

pub returns : goal.returns
returns c = record { of = λ x h e. zeros-count x c.args.d _ h e refl }
