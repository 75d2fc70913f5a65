-- `tape::u32_at` meets its contract: four bytes of the part that starts there, so that the compiler loads them at once. Assumes nothing.
use native.Mathlib.Omega.{arith}
use lib.ListN.{length}
use Rattle.tape.proofs.Parts.{part-first, part_byte}
use Rattle.tape.proofs.CodeReading.{le_four}
use Rattle.tape.proofs.u32_at.Goals as goal

pub returns : goal.returns
returns c =
    let a = c.args in
    let s = a.tape.now in
    let e = le_four s a.at in
    let b₀ = part-first s a.at (length s) (omega arith) in
    let b₁ = part_byte s a.at (length s) 1 (omega arith) in
    let b₂ = part_byte s a.at (length s) 2 (omega arith) in
    let b₃ = part_byte s a.at (length s) 3 (omega arith) in
    (omega arith, omega arith)
