-- `numbers::decimal::put_small` meets its contract. Assumes nothing.
use Rattle.output.proofs.Laws.{wrote_then}
use Rattle.numbers.proofs.DecimalLaws.{small-start}
use Rattle.numbers.proofs.decimal.put_small.Goals as goal

pub returns : goal.returns
returns c = wrote_then (rw (small-start c.args.zeros c.requires) at c.put_le-a.ensures) c.put_digits.ensures
