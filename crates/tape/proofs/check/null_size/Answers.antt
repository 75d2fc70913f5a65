-- `tape::check::null_size` meets its contract. Assumes nothing.
use mathlib.Core.Path.{sym, ap}
use native.Mathlib.Omega.{arith}
use Rattle.tape.specs.Bytes.{part}
use Rattle.tape.specs.Tree.{null}
use Rattle.tape.specs.Tape.{scalar_fault}
use Rattle.tape.specs.CheckSteps.{scalar_code}
use Rattle.tape.proofs.Parts.{part_length, part_byte}
use Rattle.tape.proofs.CodeReading.{byte_short, byte_over, byte_some}
use Rattle.tape.proofs.check.null_size.Goals as goal

pub returns-then-end-at-lt2 : goal.returns-then-end-at-lt2
returns-then-end-at-lt2 c =
    let a = c.args in
    let l = part a.tape.now a.at a.end in
    let n = part_length a.tape.now a.at a.end c.requires.end_in_bounds in
    sym (ap scalar_code (byte_short l 12 null (omega arith)))

pub returns-then-tape-at-gt12 : goal.returns-then-tape-at-gt12
returns-then-tape-at-gt12 c =
    let a = c.args in
    let l = part a.tape.now a.at a.end in
    let n = part_length a.tape.now a.at a.end c.requires.end_in_bounds in
    let b = part_byte a.tape.now a.at a.end 1 (omega arith) in
    sym (ap scalar_code (byte_over l 12 null (omega arith)))

pub returns : goal.returns
unfolding scalar_fault
returns c =
    let a = c.args in
    let l = part a.tape.now a.at a.end in
    let n = part_length a.tape.now a.at a.end c.requires.end_in_bounds in
    let b = part_byte a.tape.now a.at a.end 1 (omega arith) in
    sym (ap scalar_code (byte_some l 12 null (omega arith) (omega arith)))
