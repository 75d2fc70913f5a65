-- `scalars::clob_at` meets its contract. Assumes nothing.
use native.Mathlib.Omega.{arith}
use Rattle.tokens.proofs.Keeping.{kept_before}
use Rattle.reader.specs.Steps.{clob_node}
use Rattle.reader.proofs.ScalarSteps.{taken_none, copied_clob}
use Rattle.reader.proofs.scalars.clob_at.Goals as goal

pub returns-in_err-body : goal.returns-in_err-body
returns-in_err-body c =
    let k = c.in_err-body.ensures in
    rw c.from_residual.ensures (taken_none clob_node k.told.0, kept_before (omega (arith, c.ahead-s.ensures, c.requires.1)) k.told.1)

pub overflow_sub-body : goal.overflow_sub-body
overflow_sub-body c =
    let k = c.in_ok-body.ensures in
    omega (arith, k.told.4.count, c.ahead-s.ensures)

pub returns : goal.returns
returns c = copied_clob c.ahead-s.ensures c.in_ok-body.ensures c.put_header.ensures
