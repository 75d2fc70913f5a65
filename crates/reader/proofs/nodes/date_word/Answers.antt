-- `nodes::date_word` meets its contract. Assumes nothing.
use native.Mathlib.Omega.{arith}
use Rattle.reader.proofs.NodeWords.{date-bytes}
use Rattle.reader.proofs.nodes.date_word.Goals as goal

pub returns : goal.returns
returns c =
    date-bytes _ _ _ _ _ _ _ (omega arith) (omega arith) (omega arith) (omega arith) (omega arith) (omega arith) (omega arith)
