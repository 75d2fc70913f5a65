-- `tape::check::notes_seen` meets its contract. Assumes nothing.
use mathlib.Core.Path.{sym, ap, ◌∙◌}
use native.Mathlib.Omega.{arith}
use Rattle.tape.specs.Bytes.{part}
use Rattle.tape.specs.CheckSteps.{notes_front}
use Rattle.tape.proofs.Parts.{part_length, part-first, part_byte, part-drop}
use Rattle.tape.proofs.CodeReading.{notes-empty, notes-none, notes_short, notes_few, notes-many}
use Rattle.tape.proofs.CodeFacts.{front-none, front-notes}
use Rattle.tape.proofs.Parts.{trailed}
use Rattle.tape.proofs.check.notes_seen.Goals as goal
use Rattle.tape.proofs.check.notes_seen.Goals.{then-at-end-via-then-at-end, then-at-end-via-else-at-end+then-tape-at-ne13, then-n-lt1-via-then-n-lt1, then-n-lt1-via-else-n-lt1+then-n-gt16}

pub returns-then-at-end : goal.returns-then-at-end
returns-then-at-end c =
    let a = c.args in
    let l = part a.tape.now a.at a.end in
    let n = part_length a.tape.now a.at a.end (trailed c.requires.end_in_bounds) in
    front-none l a.at a.noted a.numbered (elim c.then-at-end.branch [
      | then-at-end-via-then-at-end w ↦ notes-empty l (omega arith)
      | then-at-end-via-else-at-end+then-tape-at-ne13 w ↦
          let f = part-first a.tape.now a.at a.end (omega arith) in
          notes-none l (λ e. w.if-tape-at-ne13.true (sym f ∙ e))
    ])

pub returns-then-end-at-lt2 : goal.returns-then-end-at-lt2
returns-then-end-at-lt2 c =
    let a = c.args in
    let l = part a.tape.now a.at a.end in
    let n = part_length a.tape.now a.at a.end (trailed c.requires.end_in_bounds) in
    let f = part-first a.tape.now a.at a.end (omega arith) in
    sym (ap (notes_front a.at a.noted a.numbered) (notes_short l (f ∙ c.if-tape-at-ne13.false) (omega arith)))

pub returns-then-n-lt1 : goal.returns-then-n-lt1
returns-then-n-lt1 c =
    let a = c.args in
    let l = part a.tape.now a.at a.end in
    let f = part-first a.tape.now a.at a.end (omega arith) in
    let b = part_byte a.tape.now a.at a.end 1 (omega arith) in
    sym (ap (notes_front a.at a.noted a.numbered) (elim c.then-n-lt1.branch [
      | then-n-lt1-via-then-n-lt1 w ↦ notes_few l (f ∙ c.if-tape-at-ne13.false) (omega arith)
      | then-n-lt1-via-else-n-lt1+then-n-gt16 w ↦ notes-many l (f ∙ c.if-tape-at-ne13.false) (omega arith)
    ]))

pub returns : goal.returns
returns c =
    let a = c.args in
    let l = part a.tape.now a.at a.end in
    let f = part-first a.tape.now a.at a.end (omega arith) in
    let b = part_byte a.tape.now a.at a.end 1 (omega arith) in
    c.syms_seen.ensures ∙ rw (← b, ← part-drop a.tape.now a.at a.end 2) (front-notes l a.at a.noted a.numbered (f ∙ c.if-tape-at-ne13.false) (omega arith) (omega arith))
