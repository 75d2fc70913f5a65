-- `tape::u16_at` meets its contract. Assumes nothing.
use native.Mathlib.Omega.{arith}
use Rattle.tape.proofs.CodeReading.{le_two}
use Rattle.tape.proofs.u16_at.Goals as goal

pub returns : goal.returns
returns c =
    let a = c.args in
    let e = le_two a.tape.now a.at in
    (omega arith, omega arith)
