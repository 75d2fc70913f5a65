-- `heads::symbol_at` meets its contract. Assumes nothing.
use native.Mathlib.Omega.{arith}
use Rattle.tokens.proofs.Keeping.{kept_before}
use Rattle.reader.proofs.HeadSteps.{symbol-text, symbol-id}
use Rattle.reader.proofs.heads.symbol_at.Goals as goal

pub overflow_sub-e : goal.overflow_sub-e
overflow_sub-e c =
    let k = rw c.in-Text.is at c.in_ok-a.ensures in
    omega (arith, k.told.4.count, c.ahead-s.ensures)

pub returns-in-Text : goal.returns-in-Text
returns-in-Text c = symbol-text _ c.ahead-s.ensures (rw c.in-Text.is at c.in_ok-a.ensures) c.put_header.ensures

pub returns-in-Id : goal.returns-in-Id
returns-in-Id c = symbol-id _ (rw c.in-Id.is at c.in_ok-a.ensures) c.put_header-q.ensures

pub returns-in_err-a : goal.returns-in_err-a
returns-in_err-a c =
    let k = c.in_err-a.ensures in
    rw c.from_residual.ensures (k.told.0, kept_before (omega (arith, c.ahead-s.ensures, c.requires.1)) k.told.1)
