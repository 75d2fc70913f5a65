-- `tape::check::int_size` meets its contract. Assumes nothing.
use mathlib.Core.Path.{sym, ap}
use native.Mathlib.Omega.{arith}
use Rattle.tape.specs.Bytes.{part}
use Rattle.tape.specs.Tape.{scalar_fault}
use Rattle.tape.specs.CheckSteps.{scalar_code}
use Rattle.tape.proofs.Parts.{part_length}
use Rattle.tape.proofs.CodeReading.{int_short, int_some}
use Rattle.tape.proofs.check.int_size.Goals as goal

pub returns-then-end-at-lt9 : goal.returns-then-end-at-lt9
returns-then-end-at-lt9 c =
    let a = c.args in
    let l = part a.tape.now a.at a.end in
    let n = part_length a.tape.now a.at a.end c.requires.end_in_bounds in
    sym (ap scalar_code (int_short l (omega arith)))

pub returns : goal.returns
unfolding scalar_fault
returns c =
    let a = c.args in
    let l = part a.tape.now a.at a.end in
    let n = part_length a.tape.now a.at a.end c.requires.end_in_bounds in
    sym (ap scalar_code (int_some l (omega arith)))
