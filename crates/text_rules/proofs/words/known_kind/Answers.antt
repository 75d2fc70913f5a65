-- `words::known_kind` meets its contract. Assumes nothing.
use mathlib.Core.Path.{sym, ◌∙◌}
use mathlib.Core.Bool.{true, false}
use Rattle.text_rules.proofs.WordsLaws.{starts-at, kind-plain}
use Rattle.text_rules.proofs.words.known_kind.Goals as goal

pub dollar_kind-requires : goal.dollar_kind-requires
dollar_kind-requires c = (starts-at c.args.w.now 36 c.requires.0 c.if-w-eq36.true, c.requires.1)

pub keyword_kind-requires : goal.keyword_kind-requires
keyword_kind-requires c = sym c.is_keyword.ensures ∙ c.if-is_keyword.true

pub returns-then-identifier : goal.returns-then-identifier
returns-then-identifier c =
    sym (kind-plain c.args.w.now c.requires.0 c.if-w-eq36.false (sym c.is_keyword.ensures ∙ c.if-is_keyword.false) true (sym c.requires.1 ∙ c.if-identifier.true))

pub returns-else-identifier : goal.returns-else-identifier
returns-else-identifier c =
    sym (kind-plain c.args.w.now c.requires.0 c.if-w-eq36.false (sym c.is_keyword.ensures ∙ c.if-is_keyword.false) false (sym c.requires.1 ∙ c.if-identifier.false))
