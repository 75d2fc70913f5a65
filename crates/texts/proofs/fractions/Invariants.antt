-- `texts::fractions` meets its contract. Assumes nothing.
use Prim.Native.Nat.{◌≤◌}
use Rattle.texts.proofs.fractions.Given as goal

abbrev pub invariant-loop-digits : goal.invariant-loop-digits
invariant-loop-digits g l = (1 ≤ l.top) × (l.top ≤ 4000000000)
