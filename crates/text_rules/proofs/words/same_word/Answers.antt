-- `words::same_word` meets its contract. Assumes nothing.
use mathlib.Core.Path.{◌∙◌}
use Rattle.text_rules.proofs.Slices.{same_pointwise}
use Rattle.text_rules.proofs.words.same_word.Goals as goal

pub returns : goal.returns
returns c = c.eq.ensures ∙ same_pointwise c.args.word.now c.args.text.now
