-- `tape::u64_at` meets its contract: four bytes and four bytes. Assumes nothing.
use native.Mathlib.Omega.{arith}
use Rattle.tape.proofs.CodeReading.{le_both}
use Rattle.tape.proofs.u64_at.Goals as goal

pub returns : goal.returns
returns c =
    let a = c.args in
    let e = le_both 4 4 a.tape.now a.at in
    omega arith
