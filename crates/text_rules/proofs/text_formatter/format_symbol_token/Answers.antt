-- `text_formatter::format_symbol_token` meets its contract. Assumes nothing.
use mathlib.Core.Path.{sym, ◌∙◌}
use Rattle.text_rules.proofs.SymbolsText.{symbol_bare, symbol-marked}
use Rattle.text_rules.proofs.text_formatter.format_symbol_token.Goals as goal

pub returns-then-is_bare : goal.returns-then-is_bare
returns-then-is_bare c = rw (symbol_bare c.args.text.now (sym c.is_bare.ensures ∙ c.if-is_bare.true)) c.put_bytes.ensures

pub returns-else-is_bare : goal.returns-else-is_bare
returns-else-is_bare c = rw (symbol-marked _ c.args.text.now (sym c.is_bare.ensures ∙ c.if-is_bare.false)) c.put_marked.ensures
