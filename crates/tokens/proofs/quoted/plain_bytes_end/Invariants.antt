-- `quoted::plain_bytes_end` meets its contract. Assumes nothing.
use Prim.Native.Nat.{◌≤◌}
use lib.ListN.{length}
use Rattle.tokens.specs.Steps.{RunTo, is_plain_byte}
use Rattle.tokens.proofs.quoted.plain_bytes_end.Given as goal

abbrev pub invariant-loop-i : goal.invariant-loop-i
invariant-loop-i l = (l.stop ≤ length l.text) × RunTo is_plain_byte l.text l.at l.i
