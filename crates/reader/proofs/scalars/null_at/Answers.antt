-- `scalars::null_at` meets its contract. Assumes nothing.
use Rattle.tokens.proofs.Keeping.{kept_all}
use Rattle.tape.specs.Tree.{encode, encode_scalar}
use Rattle.reader.specs.Steps.{null_node}
use Rattle.reader.proofs.ScalarSteps.{taken_none, read_some}
use Rattle.reader.proofs.scalars.null_at.Goals as goal

pub returns-in_err-t : goal.returns-in_err-t
returns-in_err-t c =
    let k = c.in_err-t.ensures in
    rw c.from_residual.ensures (taken_none null_node k.is, kept_all)

pub returns : goal.returns
unfolding encode encode_scalar
returns c = read_some null_node _ c.in_ok-t.ensures c.put2-p.ensures
