-- `heads::marks_at` meets its contract. The invariant says what is left to show. Assumes nothing.
use Prim.Native.Nat.{ℕ, ◌-◌, ◌≤◌}
use mathlib.Core.Path.{◌≡◌}
use mathlib.Core.List.{List}
use lib.ListN.{length}
use Rattle.std.specs.Prelude.{Option}
use Rattle.output.specs.Wrote.{limit}
use Rattle.tokens.specs.Quoted.{raw_rule}
use Rattle.reader.specs.Steps.{MarksAt}
use Rattle.reader.specs.declared.heads.Run.{Run}
use Rattle.reader.proofs.heads.marks_at.Given as goal

abbrev pub invariant-loop-from : goal.invariant-loop-from
invariant-loop-from l = (l.from ≤ l.at) × (l.at ≤ length l.text) × (l.pos ≤ limit) × (l.count ≤ 15) × (length l.buf ≡ length l.initial.buf) × ((r : Option Run) (b' : List ℕ) → MarksAt (raw_rule l.old) l.text l.at (15 - l.count) l.buf b' l.pos l.count r → MarksAt (raw_rule l.old) l.text l.from 15 l.initial.buf b' l.start 0 r)

abbrev pub decreases-loop-from : goal.decreases-loop-from
decreases-loop-from l = length l.text - l.at
