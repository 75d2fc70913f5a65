-- `nodes::put2` meets its contract. Assumes nothing.
use Rattle.output.proofs.Laws.{wrote_then}
use Rattle.reader.proofs.nodes.put2.Goals as goal

pub returns : goal.returns
returns c = wrote_then c.put-p.ensures c.put.ensures
