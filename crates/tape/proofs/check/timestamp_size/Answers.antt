-- `tape::check::timestamp_size` meets its contract. Assumes nothing.
use mathlib.Core.Path.{sym, ap, ◌∙◌}
use native.Mathlib.Omega.{arith}
use mathlib.Core.Bool.{true, false}
use Rattle.numbers.specs.Timestamp.{well_formed}
use Rattle.tape.specs.Bytes.{part}
use Rattle.tape.specs.CheckSteps.{scalar_code}
use Rattle.tape.proofs.Parts.{part_length}
use Rattle.tape.proofs.CodeReading.{timestamp_short, timestamp-part}
use Rattle.tape.proofs.CodeFacts.{code-timestamp}
use Rattle.tape.proofs.check.timestamp_size.Goals as goal

pub returns-then-end-at-lt16 : goal.returns-then-end-at-lt16
returns-then-end-at-lt16 c =
    let a = c.args in
    let l = part a.tape.now a.at a.end in
    let n = part_length a.tape.now a.at a.end c.requires.end_in_bounds in
    sym (ap scalar_code (timestamp_short l (omega arith)))

pub returns-then-is_well_formed : goal.returns-then-is_well_formed
returns-then-is_well_formed c =
    let a = c.args in
    let l = part a.tape.now a.at a.end in
    let n = part_length a.tape.now a.at a.end c.requires.end_in_bounds in
    code-timestamp l true (omega arith) (sym c.if-is_well_formed.true ∙ c.is_well_formed.ensures ∙ ap well_formed (c.timestamp_of.ensures ∙ timestamp-part a.tape.now a.at a.end (omega arith)))

pub returns : goal.returns
returns c =
    let a = c.args in
    let l = part a.tape.now a.at a.end in
    let n = part_length a.tape.now a.at a.end c.requires.end_in_bounds in
    code-timestamp l false (omega arith) (sym c.if-is_well_formed.false ∙ c.is_well_formed.ensures ∙ ap well_formed (c.timestamp_of.ensures ∙ timestamp-part a.tape.now a.at a.end (omega arith)))
