-- `parts::notes_at` meets its contract. Assumes nothing.
use mathlib.Core.Path.{◌≡◌, sym, ap, ◌∙◌}
use mathlib.Core.Bool.{true, false}
use native.Mathlib.Omega.{arith}
use Rattle.tape.specs.Bytes.{part}
use Rattle.tape.specs.CheckSteps.{notes_front}
use Rattle.tape.proofs.Parts.{trailed, part_length, part-first, part_byte}
use Rattle.tape.proofs.CodeReading.{notes_short, notes_few, notes-many}
use Rattle.measure.specs.Steps.{quoting}
use Rattle.measure.specs.declared.parts.Notes.{Notes}
use Rattle.measure.proofs.PartLaws.{notes-front, notes-length}
use Rattle.std.proofs.lemmas.Option.{IfSome_then}
use Rattle.measure.proofs.parts.notes_at.Goals as goal
use Rattle.measure.proofs.parts.notes_at.Goals.{then-n-lt1-via-then-n-lt1, then-n-lt1-via-else-n-lt1+then-n-gt16}

pub returns-then-end-at-lt2 : goal.returns-then-end-at-lt2
returns-then-end-at-lt2 c =
    let a = c.args in
    let l = part a.tape.now a.at a.end in
    let n = part_length a.tape.now a.at a.end (trailed c.requires.end_in_bounds) in
    let f = part-first a.tape.now a.at a.end c.requires.at_lt_end in
    let t = c.if-end-at-lt2.true in
    record { front = sym (ap (notes_front a.at true false) (notes_short l (f ∙ c.requires.at_value) (omega arith))); length = tt }

pub returns-then-n-lt1 : goal.returns-then-n-lt1
returns-then-n-lt1 c =
    let a = c.args in
    let l = part a.tape.now a.at a.end in
    let f = part-first a.tape.now a.at a.end c.requires.at_lt_end in
    let q = c.if-end-at-lt2.false in
    let b = part_byte a.tape.now a.at a.end 1 (omega arith) in
    record {
      front = sym (ap (notes_front a.at true false) (elim c.then-n-lt1.branch [
        | then-n-lt1-via-then-n-lt1 w ↦ notes_few l (f ∙ c.requires.at_value) (omega arith)
        | then-n-lt1-via-else-n-lt1+then-n-gt16 w ↦ notes-many l (f ∙ c.requires.at_value) (omega arith)
      ]));
      length = tt;
    }

pub returns : goal.returns
returns c =
    let a = c.args in
    let q = c.if-end-at-lt2.false in
    let few = c.if-n-lt1.false in
    let many = c.if-n-gt16.false in
    record {
      front = rw (← notes-front a.tape.now a.at a.end (omega arith) c.requires.at_value few many) c.notes_from.ensures.front;
      length = IfSome_then {X = Notes} c.notes_from.result {P = λ x. x.length ≡ _} {Q = λ x. x.length ≡ _} c.notes_from.ensures.length (λ x h. h ∙ notes-length a.tape.now a.at a.end (omega arith) c.requires.at_value few many (quoting a.quotes));
    }
