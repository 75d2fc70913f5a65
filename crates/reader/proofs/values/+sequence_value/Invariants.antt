-- With n bytes of text left, `value` measures 2n and `sequence` 2n + 1: `value` passes the bracket before it calls `sequence`, and `sequence` calls
-- `value` at the same place or behind it. The invariant of the loop is what is left to show: whatever holds of the rest of the sequence from the present
-- place gives what the contract says of the whole. Assumes nothing.
use Rattle.std.proofs.Common.{ℕ, suc, ◌-◌, ◌*◌, ◌≡◌, ◌≤◌, List, length, Option}
use Rattle.output.specs.Wrote.{limit}
use Rattle.tokens.specs.Quoted.{raw_rule}
use Rattle.reader.specs.Steps.{RunAt}
use Rattle.reader.specs.declared.heads.Run.{Run}
use Rattle.reader.proofs.values.+sequence_value.Given as goal

abbrev pub decreases-sequence : goal.decreases-sequence
decreases-sequence l = suc (2 * (length l.text.now - l.from))

abbrev pub decreases-value : goal.decreases-value
decreases-value l = 2 * (length l.text.now - l.at)

abbrev pub invariant-sequence-loop-end : goal.invariant-sequence-loop-end
invariant-sequence-loop-end l =
    (l.from ≤ l.at)
    × (l.at ≤ length l.text)
    × (l.count ≤ l.at)
    × (l.pos ≤ limit)
    × (length l.buf ≡ length l.initial.buf)
    × ((r : Option Run) (b' : List ℕ) → RunAt (raw_rule l.old) l.text l.at l.frame l.left l.buf b' l.pos l.count r → RunAt (raw_rule l.old) l.text l.from l.frame l.left l.initial.buf b' l.start 0 r)

abbrev pub decreases-sequence-loop-end : goal.decreases-sequence-loop-end
decreases-sequence-loop-end l = length l.text - l.at
