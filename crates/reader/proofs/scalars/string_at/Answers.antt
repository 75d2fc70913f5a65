-- `scalars::string_at` meets its contract. Assumes nothing.
use native.Mathlib.Omega.{arith}
use Rattle.tokens.proofs.Keeping.{kept_before}
use Rattle.reader.proofs.ScalarSteps.{string-none, copied_string}
use Rattle.reader.proofs.scalars.string_at.Goals as goal

pub returns-in_err-body : goal.returns-in_err-body
returns-in_err-body c =
    let x = c.args in
    let k = c.in_err-body.ensures in
    rw c.from_residual.ensures (string-none _ x.text.now x.at c.requires.0 c.requires.2 k.told.0, kept_before (omega (arith, c.ahead-s.ensures, c.requires.1)) k.told.1)

pub overflow_sub-body : goal.overflow_sub-body
overflow_sub-body c =
    let k = c.in_ok-body.ensures in
    omega (arith, k.told.4.count, c.ahead-s.ensures)

pub returns : goal.returns
returns c =
    let x = c.args in
    copied_string _ x.text.now x.at c.requires.0 c.requires.2 c.ahead-s.ensures c.in_ok-body.ensures c.put_header.ensures
