-- `ion::converted_out` is safe and ends: a part has at least one byte. Assumes nothing.
use Rattle.std.proofs.Common.{length, ◌-◌}
use Rattle.ion.proofs.converted_out.Given as goal

abbrev pub decreases-loop-at : goal.decreases-loop-at
decreases-loop-at g l = length l.text - l.at
