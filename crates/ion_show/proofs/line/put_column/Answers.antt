-- `ion_show::line::put_column` meets its contract. Assumes nothing.
use Rattle.output.proofs.Laws.{wrote_then}
use Rattle.ion_show.specs.Lines.{column}
use Rattle.ion_show.proofs.line.put_column.Goals as goal

pub returns : goal.returns
unfolding column
returns c = wrote_then (rw (c.wanting.ensures, c.digit_count-k.ensures.0) at c.put_repeated-p.ensures) c.put_digits.ensures
