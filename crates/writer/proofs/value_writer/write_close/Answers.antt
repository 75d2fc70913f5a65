-- `value_writer::write_close` meets its contract. Assumes nothing.
use Rattle.output.proofs.Laws.{wrote_then}
use Rattle.writer.proofs.value_writer.write_close.Goals as goal

pub returns-then-width-eq0 : goal.returns-then-width-eq0
returns-then-width-eq0 c = rw c.if-width-eq0.true c.write_end.ensures

pub returns : goal.returns
returns c = wrote_then c.put_repeated-p.ensures c.write_end-2.ensures
