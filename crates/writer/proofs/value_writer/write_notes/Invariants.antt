-- `value_writer::write_notes` meets its contract. The invariant: the annotations before `from` are written, those from there on are left. Assumes nothing.
use Prim.Native.Nat.{◌-◌, ◌≤◌}
use Rattle.tape.specs.Bytes.{part}
use Rattle.writer.specs.Text.{notes_text}
use Rattle.writer.specs.Steps.{notes_in}
use Rattle.writer.proofs.Notes.{Noting}
use Rattle.writer.proofs.value_writer.write_notes.Given as goal

abbrev pub invariant-loop-from : goal.invariant-loop-from
invariant-loop-from l = (l.value ≤ l.end) × Noting l.quoted l.initial.buf l.buf l.pos l.p (notes_text l.quoted (notes_in (part l.tape l.at l.end))) l.tape l.from l.end l.value

abbrev pub decreases-loop-from : goal.decreases-loop-from
decreases-loop-from l = l.value - l.from
