-- `program_io::find` meets its contract. Assumes nothing.
use Prim.Native.Nat.{◌+◌}
use mathlib.Core.Path.{◌≡◌}
use lib.ListN.{drop}
use Rattle.program_io.specs.Framed.{distance}
use Rattle.program_io.proofs.find.Given as goal

abbrev pub invariant-loop-i : goal.invariant-loop-i
invariant-loop-i l = l.at + distance l.x (drop l.at l.input) ≡ l.i + distance l.x (drop l.i l.input)
