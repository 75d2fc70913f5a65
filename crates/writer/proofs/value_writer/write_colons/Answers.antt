-- `value_writer::write_colons` meets its contract. Assumes nothing.
use Rattle.output.proofs.Laws.{wrote_then}
use Rattle.writer.proofs.value_writer.write_colons.Goals as goal

pub returns : goal.returns
returns c = wrote_then c.put-p.ensures c.put.ensures
