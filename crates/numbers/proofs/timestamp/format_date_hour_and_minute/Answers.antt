-- `timestamp::format_date_hour_and_minute` meets its contract. Assumes nothing.
use Rattle.output.proofs.Laws.{wrote_then}
use Rattle.numbers.specs.Timestamp.{date_hour_and_minute}
use Rattle.numbers.proofs.timestamp.format_date_hour_and_minute.Goals as goal

pub returns : goal.returns
unfolding date_hour_and_minute
returns c = wrote_then c.format_date-p.ensures (wrote_then c.put-q.ensures c.format_hour_and_minute.ensures)
