-- `converter::put_converted` meets its contract. Assumes nothing.
use Prim.Native.Nat.{◌-◌, ◌≤◌}
use lib.ListN.{length, drop}
use Rattle.output.proofs.Laws.{Progress}
use Rattle.converter.specs.Convert.{converted}
use Rattle.converter.proofs.put_converted.Given as goal

abbrev pub invariant-loop-i : goal.invariant-loop-i
invariant-loop-i l = (l.i ≤ length l.s) × Progress l.initial.buf l.buf l.pos l.p (converted l.s) (converted (drop l.i l.s))

abbrev pub decreases-loop-i : goal.decreases-loop-i
decreases-loop-i l = length l.s - l.i
