-- `tape::timestamp_at` meets its contract. Assumes nothing.
use mathlib.Core.Path.{sym, ap, ◌∙◌}
use native.Mathlib.Omega.{arith}
use mathlib.Core.Option.{some}
use Rattle.numbers.specs.declared.timestamp.Timestamp.{Timestamp}
use Rattle.tape.specs.Tree.{timestamp}
use Rattle.tape.proofs.Parts.{part_length}
use Rattle.tape.proofs.CodeReading.{timestamp_short, timestamp-some, timestamp-part}
use Rattle.tape.proofs.timestamp_at.Goals as goal

pub returns-then-end-at-lt16 : goal.returns-then-end-at-lt16
returns-then-end-at-lt16 c =
    let a = c.args in
    let n = part_length a.tape.now a.at a.end c.requires.end_in_bounds in
    sym (timestamp_short _ (omega arith))

pub returns : goal.returns
returns c =
    let a = c.args in
    let n = part_length a.tape.now a.at a.end c.requires.end_in_bounds in
    ap (λ (t : Timestamp). some (timestamp t, 16)) (c.timestamp_of.ensures ∙ timestamp-part a.tape.now a.at a.end (omega arith)) ∙ sym (timestamp-some _ (omega arith))
