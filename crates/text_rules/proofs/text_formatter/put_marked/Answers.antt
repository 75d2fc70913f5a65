-- `text_formatter::put_marked` meets its contract. Assumes nothing.
use Rattle.output.proofs.Laws.{wrote_then}
use Rattle.text_rules.proofs.text_formatter.put_marked.Goals as goal

pub returns : goal.returns
returns c = wrote_then c.put-p.ensures (wrote_then c.format_escaped_text_body-q.ensures c.put.ensures)
