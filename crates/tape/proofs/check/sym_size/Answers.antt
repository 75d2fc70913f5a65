-- `tape::check::sym_size` meets its contract. Assumes nothing.
use mathlib.Core.Path.{sym, ap, ◌∙◌}
use native.Mathlib.Omega.{arith}
use Rattle.tape.specs.Bytes.{part}
use Rattle.tape.specs.Tape.{sym_fault}
use Rattle.tape.specs.CheckSteps.{code_of}
use Rattle.tape.proofs.Parts.{part_length, part-first}
use Rattle.tape.proofs.CodeReading.{sym_id, sym_none, sym_short}
use Rattle.tape.proofs.CodeFacts.{code_text}
use Rattle.tape.proofs.Parts.{trailed}
use Rattle.tape.proofs.check.sym_size.Goals as goal

pub returns-then-end-at-lt5 : goal.returns-then-end-at-lt5
returns-then-end-at-lt5 c =
    let a = c.args in
    let l = part a.tape.now a.at a.end in
    let n = part_length a.tape.now a.at a.end (trailed c.requires.end_in_bounds) in
    sym (ap (code_of sym_fault) (sym_short l (omega arith)))

pub returns-then-k-eq6 : goal.returns-then-k-eq6
returns-then-k-eq6 c =
    let a = c.args in
    let l = part a.tape.now a.at a.end in
    let f = part-first a.tape.now a.at a.end (omega arith) in
    c.word_size.ensures ∙ code_text l (f ∙ c.if-k-eq6.true)

pub returns-then-k-eq7 : goal.returns-then-k-eq7
returns-then-k-eq7 c =
    let a = c.args in
    let l = part a.tape.now a.at a.end in
    let n = part_length a.tape.now a.at a.end (trailed c.requires.end_in_bounds) in
    let f = part-first a.tape.now a.at a.end (omega arith) in
    sym (ap (code_of sym_fault) (sym_id l (f ∙ c.if-k-eq7.true) (omega arith)))

pub returns : goal.returns
returns c =
    let a = c.args in
    let l = part a.tape.now a.at a.end in
    let f = part-first a.tape.now a.at a.end (omega arith) in
    sym (ap (code_of sym_fault) (sym_none l (λ e. c.if-k-eq6.false (sym f ∙ e)) (λ e. c.if-k-eq7.false (sym f ∙ e))))
