-- `nodes::put_timestamp` meets its contract. Assumes nothing.
use mathlib.Core.Path.{sym}
use Rattle.output.proofs.Laws.{wrote_then}
use Rattle.reader.proofs.NodeWords.{timestamp-bytes}
use Rattle.reader.proofs.nodes.put_timestamp.Goals as goal

pub returns : goal.returns
returns c =
    rw (sym (timestamp-bytes c.args.x _ _ c.date_word.ensures c.offset_word.ensures)) (wrote_then c.put_wide-p.ensures c.put_le.ensures)
