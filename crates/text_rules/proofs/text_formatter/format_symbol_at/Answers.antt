-- `text_formatter::format_symbol_at` meets its contract. Assumes nothing.
use Rattle.text_rules.proofs.text_formatter.format_symbol_at.Goals as goal

pub returns-then-quoted : goal.returns-then-quoted
returns-then-quoted c = rw c.if-quoted.true c.format_quoted_at.ensures.always

pub returns-else-quoted : goal.returns-else-quoted
returns-else-quoted c = rw c.if-quoted.false c.format_token_at.ensures
