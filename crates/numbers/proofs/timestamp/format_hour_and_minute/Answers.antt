-- `timestamp::format_hour_and_minute` meets its contract. Assumes nothing.
use native.Mathlib.Omega.{arith}
use Rattle.output.proofs.Laws.{wrote_then}
use Rattle.numbers.specs.Timestamp.{hour_and_minute}
use Rattle.numbers.proofs.Stores.{wrote_here}
use Rattle.numbers.proofs.TimestampStores.{length-clock}
use borrow.Author.Rules.{rules}
use Rattle.numbers.proofs.timestamp.format_hour_and_minute.Goals as goal

pub returns-then-pos-saturating_sub : goal.returns-then-pos-saturating_sub
returns-then-pos-saturating_sub c =
    let x = c.args in
    wrote_here 5 c.clock_here.ensures (length-clock x.hour x.minute) (omega arith) (search rules)

pub returns : goal.returns
unfolding hour_and_minute
returns c = wrote_then c.put_pair-p.ensures (wrote_then c.put-q.ensures c.put_pair.ensures)
