-- `short_words::is_plain` meets its contract. Assumes nothing.
use mathlib.Core.Path.{sym, ◌∙◌}
use borrow.Author.Tests.{not-true}
use Rattle.text_rules.proofs.LaneTests.{letters_word}
use Rattle.text_rules.proofs.short_words.is_plain.Goals as goal

pub returns-then-is_letter_word : goal.returns-then-is_letter_word
returns-then-is_letter_word c = λ e. letters_word c.args.n c.args.x c.requires.0 (sym c.is_letter_word.ensures ∙ c.if-is_letter_word.true) (sym c.is_keyword_word.ensures ∙ not-true _ e)
