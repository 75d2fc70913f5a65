-- `timestamp::format_year_and_month` meets its contract. Assumes nothing.
use Rattle.output.proofs.Laws.{wrote_then}
use Rattle.numbers.specs.Timestamp.{year_and_month}
use Rattle.numbers.proofs.timestamp.format_year_and_month.Goals as goal

pub returns : goal.returns
unfolding year_and_month
returns c = wrote_then c.put_padded-p.ensures (wrote_then c.put-q.ensures c.put_pair.ensures)
