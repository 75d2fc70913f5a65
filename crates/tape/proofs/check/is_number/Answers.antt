-- `tape::check::is_number` meets its contract. Assumes nothing.
use mathlib.Core.Path.{sym, ◌∙◌}
use native.Mathlib.Omega.{arith}
use Rattle.tape.specs.Bytes.{part}
use Rattle.tape.proofs.Parts.{part_length, part-first, part-number}
use Rattle.tape.proofs.CodeReading.{sym_short}
use Rattle.tape.proofs.CodeFacts.{number-none, number-other, number_id}
use Rattle.tape.proofs.check.is_number.Goals as goal

pub returns-then-tape-at-ne7 : goal.returns-then-tape-at-ne7
returns-then-tape-at-ne7 c =
    let a = c.args in
    let l = part a.tape.now a.at a.end in
    let f = part-first a.tape.now a.at a.end c.requires.at_lt_end in
    sym (number-other l (λ e. c.if-tape-at-ne7.true (sym f ∙ e)))

pub returns-then-end-at-lt5 : goal.returns-then-end-at-lt5
returns-then-end-at-lt5 c =
    let a = c.args in
    let l = part a.tape.now a.at a.end in
    let n = part_length a.tape.now a.at a.end c.requires.end_in_bounds in
    sym (number-none l (sym_short l (omega arith)))

pub returns : goal.returns
returns c =
    let a = c.args in
    let l = part a.tape.now a.at a.end in
    let n = part_length a.tape.now a.at a.end c.requires.end_in_bounds in
    let f = part-first a.tape.now a.at a.end c.requires.at_lt_end in
    let u = part-number a.tape.now a.at a.end 4 1 (omega arith) in
    rw (number_id l (f ∙ c.if-tape-at-ne7.false) (omega arith), c.u32_at.ensures.0, ← u)
