-- `quoted::plain_end` meets its contract. Assumes nothing.
use Prim.Native.Nat.{◌≤◌}
use lib.ListN.{length}
use Rattle.tokens.specs.Steps.{RunTo, is_plain}
use Rattle.tokens.proofs.quoted.plain_end.Given as goal

abbrev pub invariant-loop-i : goal.invariant-loop-i
invariant-loop-i l = (l.stop ≤ length l.text) × RunTo (is_plain l.q) l.text l.at l.i
