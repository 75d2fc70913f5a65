-- `field_index::sort` meets its contract. What a turn means for the list is `SortStates`'. Assumes nothing.
-- the entries are where a heapsort of theirs may stand
use Rattle.std.proofs.Common.{length}
use Rattle.field_index.specs.Names.{before}
use Rattle.field_index.proofs.TurnLaws.{height}
use Rattle.field_index.proofs.SortStates.{Sorts}
use Rattle.field_index.proofs.sort.Given as goal

abbrev pub invariant-loop-h : goal.invariant-loop-h
invariant-loop-h l = Sorts (before l.tape) l.initial.entries l.h l.entries

abbrev pub decreases-loop-h : goal.decreases-loop-h
decreases-loop-h l = height (length l.initial.entries) l.h
