-- `digits::eight_digits` meets its contract. Assumes nothing.
use mathlib.Core.Path.{◌∙◌, ap}
use Prim.Native.Nat.{ℕ, ◌+◌}
use Rattle.output.specs.Wrote.{le_bytes}
use Rattle.text_rules.proofs.DigitWords.{zeros, word_of_lem}
use Rattle.text_rules.proofs.digits.eight_digits.Goals as goal

pub returns : goal.returns
returns c = ap (λ (w : ℕ). le_bytes 8 (w + zeros)) c.word8.ensures.0 ∙ word_of_lem c.args.x c.requires
