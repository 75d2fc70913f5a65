-- `text_formatter::format_symbol_id` meets its contract. Assumes nothing.
use Rattle.output.proofs.Laws.{wrote_then}
use Rattle.text_rules.specs.Text.{symbol_id_text}
use Rattle.text_rules.proofs.text_formatter.format_symbol_id.Goals as goal

pub returns : goal.returns
unfolding symbol_id_text
returns c = wrote_then c.put-p.ensures c.put_digits.ensures
