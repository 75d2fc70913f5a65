-- `words::keyword_kind` meets its contract. Assumes nothing.
use mathlib.Core.Path.{sym, ◌∙◌}
use Rattle.text_rules.proofs.WordsLaws.{kind-null, kind-true, kind-false, kind-nan}
use Rattle.text_rules.proofs.words.keyword_kind.Goals as goal

pub returns-then-same_word : goal.returns-then-same_word
returns-then-same_word c = sym (kind-null _ (sym c.same_word.ensures ∙ c.if-same_word.true))

pub returns-then-same_word-2 : goal.returns-then-same_word-2
returns-then-same_word-2 c = sym (kind-true _ (sym c.same_word.ensures ∙ c.if-same_word.false) (sym c.same_word-else-same_word.ensures ∙ c.if-same_word-2.true))

pub returns-then-same_word-3 : goal.returns-then-same_word-3
returns-then-same_word-3 c =
    sym (kind-false _ (sym c.same_word.ensures ∙ c.if-same_word.false) (sym c.same_word-else-same_word.ensures ∙ c.if-same_word-2.false) (sym c.same_word-else-same_word-2.ensures ∙ c.if-same_word-3.true))

pub returns-else-same_word-3 : goal.returns-else-same_word-3
returns-else-same_word-3 c =
    sym (kind-nan _ (sym c.same_word.ensures ∙ c.if-same_word.false) (sym c.same_word-else-same_word.ensures ∙ c.if-same_word-2.false) (sym c.same_word-else-same_word-2.ensures ∙ c.if-same_word-3.false) c.requires)
