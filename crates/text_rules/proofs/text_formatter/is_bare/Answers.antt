-- `text_formatter::is_bare` meets its contract. Assumes nothing.
use mathlib.Core.Path.{sym, ◌∙◌}
use Rattle.text_rules.proofs.SymbolsText.{plain_bare, identifier_some}
use Rattle.text_rules.proofs.text_formatter.is_bare.Goals as goal

pub bounds-text-0 : goal.bounds-text-0
bounds-text-0 c = identifier_some _ (sym c.token_is_identifier.ensures ∙ c.if-token_is_identifier.true)

pub returns-then-not-is_special : goal.returns-then-not-is_special
returns-then-not-is_special c =
    rw c.if-not-is_special.true (sym (plain_bare _ (sym c.token_is_identifier.ensures ∙ c.if-token_is_identifier.true) (sym c.is_special.ensures ∙ c.if-not-is_special.true)))
