-- `timestamp::usual_at` meets its contract. Assumes nothing.
use Rattle.numbers.proofs.TimestampUsual.{usual_read}
use Rattle.numbers.proofs.timestamp.usual_at.Goals as goal

pub returns : goal.returns
returns c =
    let x = c.args in
    let u = c.is_usual.ensures c.if-not-is_usual.false in
    let k = c.is_marked.ensures c.if-not-is_marked.false in
    rw (c.with_offset.ensures, c.with_time-time.ensures, c.with_date-date.ensures) (usual_read x.text.now x.at x.year _ _ _ _ _ c.requires k u c.in_ok-month.ensures c.in_ok-day.ensures c.in_ok-hour.ensures c.in_ok-minute.ensures c.in_ok-second.ensures)
