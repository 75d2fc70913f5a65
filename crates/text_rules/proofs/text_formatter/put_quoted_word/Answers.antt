-- `text_formatter::put_quoted_word` meets its contract. Assumes nothing.
use Rattle.output.proofs.Laws.{wrote_then}
use Rattle.text_rules.proofs.text_formatter.put_quoted_word.Goals as goal

pub returns : goal.returns
returns c = wrote_then c.put-p.ensures (wrote_then c.put_le-q.ensures c.put.ensures)
