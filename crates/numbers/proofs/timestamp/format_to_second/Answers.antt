-- `timestamp::format_to_second` meets its contract. Assumes nothing.
use native.Mathlib.Omega.{arith}
use Rattle.output.proofs.Laws.{wrote_then}
use Rattle.numbers.proofs.Stores.{wrote_here}
use Rattle.numbers.proofs.TimestampStores.{length-second}
use borrow.Author.Rules.{rules}
use Rattle.numbers.proofs.timestamp.format_to_second.Goals as goal

pub second_here-requires : goal.second_here-requires
second_here-requires c =
    let s = c.is_short.ensures c.if-is_short.true in
    (search rules, s.0, s.1, s.2, s.3, s.4, s.5)

pub returns-then-pos-saturating_sub : goal.returns-then-pos-saturating_sub
returns-then-pos-saturating_sub c =
    let t = c.args.t in
    wrote_here 19 c.second_here.ensures (length-second t.year t.month t.day t.hour t.minute t.second) (omega arith) (search rules)

pub returns : goal.returns
returns c = wrote_then c.format_date_hour_and_minute-p.ensures (wrote_then c.put-q.ensures c.put_pair.ensures)
