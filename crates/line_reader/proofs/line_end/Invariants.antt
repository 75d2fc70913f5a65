-- `line_reader::line_end` meets its contract. The loop carries that the offset sought is the same from each place passed. Assumes nothing.
use Prim.Native.Nat.{◌+◌, ◌≤◌}
use mathlib.Core.Path.{◌≡◌}
use lib.ListN.{length, drop}
use Rattle.line_reader.specs.Cut.{to_first}
use Rattle.line_reader.proofs.line_end.Given as goal

abbrev pub invariant-loop-i : goal.invariant-loop-i
invariant-loop-i l = (l.i ≤ length l.text) × (l.at + length (to_first (drop l.at l.text)) ≡ l.i + length (to_first (drop l.i l.text)))
