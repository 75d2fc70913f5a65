-- `program_io::all_frames` meets its contract: so far there were frames alone. Assumes nothing.
use Prim.Native.Nat.{◌-◌, ◌≤◌}
use lib.ListN.{length}
use Rattle.program_io.specs.Framed.{FramesTo}
use Rattle.program_io.proofs.all_frames.Given as goal

abbrev pub invariant-loop-at : goal.invariant-loop-at
invariant-loop-at g l = (l.at ≤ length l.input) × FramesTo l.head l.input l.at × goal.F-IsAlwaysCallable g l.each

abbrev pub decreases-loop-at : goal.decreases-loop-at
decreases-loop-at g l = length l.input - l.at
