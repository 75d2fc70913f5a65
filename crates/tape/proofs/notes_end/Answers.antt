-- `tape::notes_end` meets its contract. Assumes nothing.
use mathlib.Core.Path.{sym, ap, ◌∙◌}
use native.Mathlib.Omega.{arith}
use mathlib.Core.List.{List}
use lib.ListN.{get_or, drop}
use Rattle.text_rules.specs.Text.{Sym}
use Rattle.tape.specs.Bytes.{part}
use Rattle.tape.specs.Steps.{place_of}
use Rattle.tape.specs.Tape.{syms_of}
use Rattle.std.specs.Prelude.{Some}
use Rattle.tape.proofs.Parts.{part_length, part-first, part_byte, part-drop}
use Rattle.tape.proofs.CodeReading.{notes-empty, notes-none, notes_short, notes_few, notes-many, notes-some, place_map}
use Rattle.tape.proofs.notes_end.Goals as goal
use Rattle.tape.proofs.notes_end.Goals.{then-at-end-via-then-at-end, then-at-end-via-else-at-end+then-tape-at-ne13, then-n-lt1-via-then-n-lt1, then-n-lt1-via-else-n-lt1+then-n-gt16}

pub returns-then-at-end : goal.returns-then-at-end
returns-then-at-end c =
    let a = c.args in
    let n = part_length a.tape.now a.at a.end c.requires.end_in_bounds in
    ap Some (omega arith) ∙ sym (ap (place_of a.at) (elim c.then-at-end.branch [
      | then-at-end-via-then-at-end w ↦ notes-empty _ (omega arith)
      | then-at-end-via-else-at-end+then-tape-at-ne13 w ↦
          let f = part-first a.tape.now a.at a.end (omega arith) in
          notes-none _ (λ e. w.if-tape-at-ne13.true (sym f ∙ e))
    ]))

pub returns-then-end-at-lt2 : goal.returns-then-end-at-lt2
returns-then-end-at-lt2 c =
    let a = c.args in
    let n = part_length a.tape.now a.at a.end c.requires.end_in_bounds in
    let f = part-first a.tape.now a.at a.end (omega arith) in
    sym (ap (place_of a.at) (notes_short _ (f ∙ c.if-tape-at-ne13.false) (omega arith)))

pub returns-then-n-lt1 : goal.returns-then-n-lt1
returns-then-n-lt1 c =
    let a = c.args in
    let n = part_length a.tape.now a.at a.end c.requires.end_in_bounds in
    let f = part-first a.tape.now a.at a.end (omega arith) in
    let b = part_byte a.tape.now a.at a.end 1 (omega arith) in
    sym (ap (place_of a.at) (elim c.then-n-lt1.branch [
      | then-n-lt1-via-then-n-lt1 w ↦ notes_few _ (f ∙ c.if-tape-at-ne13.false) (omega arith)
      | then-n-lt1-via-else-n-lt1+then-n-gt16 w ↦ notes-many _ (f ∙ c.if-tape-at-ne13.false) (omega arith)
    ]))

pub returns : goal.returns
returns c =
    let a = c.args in
    let n = part_length a.tape.now a.at a.end c.requires.end_in_bounds in
    let f = part-first a.tape.now a.at a.end (omega arith) in
    let b = part_byte a.tape.now a.at a.end 1 (omega arith) in
    let l = part a.tape.now a.at a.end in
    c.syms_end.ensures
    ∙ rw (← b, ← part-drop a.tape.now a.at a.end 2)
    (sym (ap (place_of a.at) (notes-some l (f ∙ c.if-tape-at-ne13.false) (omega arith) (omega arith)) ∙ place_map {A = List Sym} {B = List Sym} a.at 2 (λ ss. ss) (syms_of (get_or l 1 0) (drop 2 l))))
