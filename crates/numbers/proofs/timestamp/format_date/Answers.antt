-- `timestamp::format_date` meets its contract. Assumes nothing.
use native.Mathlib.Omega.{arith}
use Rattle.output.proofs.Laws.{wrote_then}
use Rattle.numbers.specs.Timestamp.{date}
use Rattle.numbers.proofs.Stores.{wrote_here}
use Rattle.numbers.proofs.TimestampStores.{date_stores, length-date}
use borrow.Author.Rules.{rules}
use Rattle.numbers.proofs.timestamp.format_date.Goals as goal

pub returns-then-pos-saturating_sub : goal.returns-then-pos-saturating_sub
returns-then-pos-saturating_sub c =
    let x = c.args in
    let w = c.four_pairs in
    wrote_here 10 (date_stores x.buf.now c.date_here.new.buf x.pos x.year x.month x.day w.result w.ensures c.date_here.ensures) (length-date x.year x.month x.day) (omega arith) (search rules)

pub returns : goal.returns
unfolding date
returns c = wrote_then c.format_year_and_month-p.ensures (wrote_then c.put-q.ensures c.put_pair.ensures)
