-- `floats::whole::put_exponent` meets its contract. Assumes nothing.
use Rattle.output.proofs.Laws.{wrote_then}
use Rattle.floats.proofs.WholeLaws.{digits_one}
use Rattle.floats.proofs.whole.put_exponent.Goals as goal

pub returns-then-e-lt10 : goal.returns-then-e-lt10
returns-then-e-lt10 c = rw (digits_one c.args.e c.if-e-lt10.true) (rw c.digit_of.ensures at c.put_two.ensures)

pub returns : goal.returns
returns c = wrote_then c.put-p.ensures c.put_digits.ensures
