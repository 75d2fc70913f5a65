-- `field_index::find` meets its contract. What a turn means for the answer is `SearchLaws`'. Assumes nothing.
-- the range is good
use Rattle.std.proofs.Common.{◌-◌}
use Rattle.field_index.specs.Names.{no_entry}
use Rattle.field_index.specs.NameSteps.{meant}
use Rattle.field_index.specs.Lookup.{sought}
use Rattle.field_index.proofs.SearchLaws.{Good}
use Rattle.field_index.proofs.find.Given as goal

abbrev pub invariant-loop-r : goal.invariant-loop-r
invariant-loop-r l = Good no_entry (sought l.tape (meant l.name)) l.entries l.r

abbrev pub decreases-loop-r : goal.decreases-loop-r
decreases-loop-r l = l.r.hi - l.r.lo
