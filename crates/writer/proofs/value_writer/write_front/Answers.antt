-- `value_writer::write_front` meets its contract: blanks, the name, and the annotations behind it. Assumes nothing.
use mathlib.Core.Path.{◌≡◌, sym, ap, ◌∙◌}
use native.Mathlib.Omega.{arith}
use Prim.Native.Nat.{ℕ}
use borrow.Author.Tests.{eq-eqb, ne_eqb}
use Rattle.output.proofs.Laws.{wrote_none, wrote_then, wrote-bound}
use Rattle.tape.specs.Steps.{place_of}
use Rattle.tape.proofs.CodeReading.{head_one}
use Rattle.writer.proofs.Notes.{front_parts, name_there, name_placed, notes_placed, name-before, bare_place, bare_front}
use Rattle.tape.proofs.Parts.{trailed}
use borrow.Author.Rules.{rules}
use Rattle.writer.proofs.value_writer.write_front.Goals as goal

pub encode_field_name-n-requires : goal.encode_field_name-n-requires
encode_field_name-n-requires c =
    let a = c.args in
    record { pos_le_limit = wrote-bound c.write_blanks-o.ensures; at_le_end = c.requires.at_le_end; end_in_bounds = c.requires.end_in_bounds; end_value = name_there a.frame a.tape.now a.at a.end c.requires.end_value }

pub bounds-tape-from : goal.bounds-tape-from
bounds-tape-from c =
    let a = c.args in
    let b = name-before a.frame a.tape.now a.at a.end c.requires.end_value _ c.encode_field_name-n.ensures.place in
    let k = c.requires.end_in_bounds in
    let u = c.requires.end_bound in
    omega arith

pub returns-then-tape-from-ne13 : goal.returns-then-tape-from-ne13
returns-then-tape-from-ne13 c =
    let a = c.args in
    let b = name-before a.frame a.tape.now a.at a.end c.requires.end_value _ c.encode_field_name-n.ensures.place in
    let u = c.requires.end_bound in record { text = rw (bare_front a.frame a.tape.now a.at a.end c.requires.end_value _ c.encode_field_name-n.ensures.place (omega arith) c.if-tape-from-ne13.true a.quoted a.layout a.width) (wrote_then c.write_blanks-o.ensures c.encode_field_name-n.ensures.text); place = bare_place a.frame a.tape.now a.at a.end c.requires.end_value _ c.encode_field_name-n.ensures.place (omega arith) c.if-tape-from-ne13.true }

pub notes_end-requires : goal.notes_end-requires
notes_end-requires c =
    let a = c.args in
    let b = name-before a.frame a.tape.now a.at a.end c.requires.end_value _ c.encode_field_name-n.ensures.place in
    let u = c.requires.end_bound in
    record { at_le_end = omega arith; end_in_bounds = trailed c.requires.end_in_bounds }

pub returns-in_default : goal.returns-in_default
returns-in_default c =
    let a = c.args in
    let n = notes_placed a.frame a.tape.now a.at a.end c.requires.end_value _ c.encode_field_name-n.ensures.place in
    let x = sym n ∙ (sym c.notes_end.ensures ∙ c.in_default.is) in
    let y : ◌≡◌ {A = ℕ} 0 1 = cc in
    absurd (omega arith)

pub write_notes-q-requires : goal.write_notes-q-requires
write_notes-q-requires c =
    let a = c.args in
    let b = name-before a.frame a.tape.now a.at a.end c.requires.end_value _ c.encode_field_name-n.ensures.place in
    let u = c.requires.end_bound in
    record { at_le_end = omega arith; end_in_bounds = trailed c.requires.end_in_bounds; end_value = sym c.notes_end.ensures ∙ c.in-Some.is }

pub returns-then-layout-eq3 : goal.returns-then-layout-eq3
returns-then-layout-eq3 c =
    let a = c.args in
    let n = name_placed a.frame a.tape.now a.at a.end c.requires.end_value _ c.encode_field_name-n.ensures.place in
    let v = head_one a.frame a.tape.now a.at a.end _ n ∙ sym c.notes_end.ensures ∙ c.in-Some.is in
    let z = ap (place_of a.at) c.requires.end_value in record { text = rw (front_parts a.quoted a.layout a.width a.frame a.tape.now a.at a.end _ _ n v, eq-eqb _ _ c.if-layout-eq3.true) (wrote_then (wrote_then c.write_blanks-o.ensures c.encode_field_name-n.ensures.text) c.write_notes-q.ensures); place = cc }

pub returns : goal.returns
returns c =
    let a = c.args in
    let n = name_placed a.frame a.tape.now a.at a.end c.requires.end_value _ c.encode_field_name-n.ensures.place in
    let v = head_one a.frame a.tape.now a.at a.end _ n ∙ sym c.notes_end.ensures ∙ c.in-Some.is in
    let z = ap (place_of a.at) c.requires.end_value in record { text = rw (front_parts a.quoted a.layout a.width a.frame a.tape.now a.at a.end _ _ n v, ne_eqb _ _ c.if-layout-eq3.false) (wrote_then (wrote_then c.write_blanks-o.ensures c.encode_field_name-n.ensures.text) (wrote_none _ _ (wrote-bound c.encode_field_name-n.ensures.text) (search rules))); place = cc }
