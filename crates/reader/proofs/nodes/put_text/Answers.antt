-- `nodes::put_text` meets its contract. Assumes nothing.
use Rattle.output.proofs.Laws.{wrote_then}
use Rattle.tape.specs.Tree.{sized}
use Rattle.reader.proofs.nodes.put_text.Goals as goal

pub returns : goal.returns
unfolding sized
returns c = wrote_then c.put_header-p.ensures c.put_bytes.ensures
