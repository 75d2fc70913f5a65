-- `replay::reading::lines` keeps what was counted. Assumes nothing.
use Rattle.listing.specs.Seen.{Keeps}
use Rattle.replay.proofs.reading.lines.Given as goal

abbrev pub invariant-loop : goal.invariant-loop
invariant-loop g l = Keeps l.initial.seen l.seen
