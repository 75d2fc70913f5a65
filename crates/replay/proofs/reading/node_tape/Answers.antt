-- `reading::node_tape` meets its contract. Assumes nothing.
use Rattle.output.proofs.Laws.{wrote_then}
use Rattle.replay.proofs.reading.node_tape.Goals as goal

pub returns : goal.returns
returns c = wrote_then (wrote_then c.put_bytes-p.ensures c.put_le-q.ensures) c.put_le.ensures
