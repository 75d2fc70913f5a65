-- `replay::lines` keeps what was counted, and ends. Assumes nothing.
use lib.ListN.{length}
use Rattle.listing.specs.Seen.{Keeps}
use Rattle.replay.proofs.lines.Given as goal

abbrev pub invariant-loop-n : goal.invariant-loop-n
invariant-loop-n g l = Keeps l.initial.seen l.seen

abbrev pub decreases-loop-n : goal.decreases-loop-n
decreases-loop-n g l = length l.rest
