-- `replay::reading::refusal` keeps what was counted. Assumes nothing.
use Rattle.listing.specs.Seen.{Keeps}
use Rattle.replay.proofs.reading.refusal.Given as goal

abbrev pub invariant-loop-room : goal.invariant-loop-room
invariant-loop-room g l = Keeps l.initial.seen l.seen
