-- `value_writer::write_notes` meets its contract. The invariant: the annotations before `from` are written, those from there on are left. Assumes nothing.
use native.Mathlib.Omega.{arith}
use Rattle.output.proofs.Laws.{wrote_empty, wrote_then, wrote-length, wrote-bound}
use Rattle.writer.specs.Text.{sym_text}
use Rattle.writer.proofs.Notes.{notes-done, note_bad, note-fits, note-written, notes_absent, notes-room, notes-start}
use borrow.Author.Rules.{rules}
use Rattle.writer.proofs.value_writer.write_notes.Goals as goal

pub returns-then-at-value : goal.returns-then-at-value
returns-then-at-value c =
    let a = c.args in
    rw (notes_absent a.quoted a.tape.now a.at a.end a.value c.requires.end_value c.if-at-value.true) (wrote_empty _ _ _ c.bounded.ensures (search rules))

pub loop-from-init : goal.loop-from-init
loop-from-init c =
    let a = c.args in (
      notes-room a.quoted a.tape.now a.at a.end a.value c.requires.end_value c.requires.at_le_end c.requires.end_in_bounds,
      notes-start a.quoted a.tape.now a.at a.end a.value c.requires.end_value c.if-at-value.false _ _ _ c.bounded-p.ensures (search rules),
    )

pub sym_at-requires : goal.sym_at-requires
sym_at-requires c =
    let w = c.loop-from.invariant.0 in
    let h = c.loop-from-test.true in
    record { at_le_end = omega arith; end_in_bounds = c.requires.end_in_bounds }

pub shape_of-buf-in_default : goal.shape_of-buf-in_default
shape_of-buf-in_default c = wrote-length c.loop-from.invariant.1.progress.wrote

pub returns-in_default : goal.returns-in_default
returns-in_default c = absurd (note_bad c.loop-from.invariant.1 c.loop-from-test.true (rw c.in_default.is at c.sym_at.ensures))

pub write_note-p-requires : goal.write_note-p-requires
write_note-p-requires c =
    let l = c.loop-from.invariant in
    let w = l.0 in
    let f = note-fits l.1 c.loop-from-test.true _ _ (rw c.in-Text.is at (rw c.in-Some.is at c.sym_at.ensures)) in
    record { n_bound = omega arith; end_in_bounds = c.requires.end_in_bounds }

pub overflow_add-from-in-Text : goal.overflow_add-from-in-Text
overflow_add-from-in-Text c =
    let l = c.loop-from.invariant in
    let w = l.0 in
    let g = c.requires.end_in_bounds in
    let f = note-fits l.1 c.loop-from-test.true _ _ (rw c.in-Text.is at (rw c.in-Some.is at c.sym_at.ensures)) in
    record { fits = omega arith }

pub overflow_add-from-in-Text-2 : goal.overflow_add-from-in-Text-2
overflow_add-from-in-Text-2 c =
    let l = c.loop-from.invariant in
    let w = l.0 in
    let g = c.requires.end_in_bounds in
    let f = note-fits l.1 c.loop-from-test.true _ _ (rw c.in-Text.is at (rw c.in-Some.is at c.sym_at.ensures)) in
    record { fits = omega arith }

pub loop-from-smaller-in-Text : goal.loop-from-smaller-in-Text
loop-from-smaller-in-Text c = let h = c.loop-from-test.true in omega arith

pub loop-from-preserved-in-Text : goal.loop-from-preserved-in-Text
unfolding sym_text
loop-from-preserved-in-Text c =
    let l = c.loop-from.invariant in
    let m = rw c.in-Text.is at (rw c.in-Some.is at c.sym_at.ensures) in
    (l.0, note-written l.1 c.loop-from-test.true _ _ m c.write_note-p.ensures)

pub overflow_add-from-in-Id : goal.overflow_add-from-in-Id
overflow_add-from-in-Id c =
    let w = c.loop-from.invariant.0 in
    let g = c.requires.end_in_bounds in
    let h = c.loop-from-test.true in
    record { fits = omega arith }

pub loop-from-smaller : goal.loop-from-smaller
loop-from-smaller c = let h = c.loop-from-test.true in omega arith

pub loop-from-preserved : goal.loop-from-preserved
unfolding sym_text
loop-from-preserved c = (
  c.loop-from.invariant.0,
  note-written c.loop-from.invariant.1 c.loop-from-test.true _ _ (rw c.in-Id.is at (rw c.in-Some.is at c.sym_at.ensures)) (wrote_then c.format_symbol_id-p.ensures c.write_colons-p.ensures),
)

pub shape_of-buf : goal.shape_of-buf
shape_of-buf c = wrote-length c.loop-from.invariant.1.progress.wrote

pub returns : goal.returns
returns c = notes-done c.loop-from.invariant.1 c.loop-from-test.false
