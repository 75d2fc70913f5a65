-- `tape::check::decimal_size` meets its contract. Assumes nothing.
use mathlib.Core.Path.{sym, ap}
use native.Mathlib.Omega.{arith}
use Rattle.tape.specs.Bytes.{part}
use Rattle.tape.specs.Tape.{scalar_fault}
use Rattle.tape.specs.CheckSteps.{scalar_code}
use Rattle.tape.proofs.Parts.{part_length, part_byte}
use Rattle.tape.proofs.CodeReading.{decimal_short, decimal_over, decimal_some}
use Rattle.tape.proofs.check.decimal_size.Goals as goal

pub returns-then-end-at-lt14 : goal.returns-then-end-at-lt14
returns-then-end-at-lt14 c =
    let a = c.args in
    let l = part a.tape.now a.at a.end in
    let n = part_length a.tape.now a.at a.end c.requires.end_in_bounds in
    sym (ap scalar_code (decimal_short l (omega arith)))

pub returns-then-tape-at-gt1 : goal.returns-then-tape-at-gt1
returns-then-tape-at-gt1 c =
    let a = c.args in
    let l = part a.tape.now a.at a.end in
    let n = part_length a.tape.now a.at a.end c.requires.end_in_bounds in
    let b = part_byte a.tape.now a.at a.end 1 (omega arith) in
    sym (ap scalar_code (decimal_over l (omega arith) (omega arith)))

pub returns : goal.returns
unfolding scalar_fault
returns c =
    let a = c.args in
    let l = part a.tape.now a.at a.end in
    let n = part_length a.tape.now a.at a.end c.requires.end_in_bounds in
    let b = part_byte a.tape.now a.at a.end 1 (omega arith) in
    sym (ap scalar_code (decimal_some l (omega arith) (omega arith)))
