-- `listing::compare::holds` meets its contract. The invariant: so far the two are the same. Assumes nothing.
use mathlib.Core.Path.{◌≡◌}
use lib.ListN.{length, take}
use Rattle.listing.specs.Due.{filled}
use Rattle.listing.proofs.compare.holds.Given as goal

abbrev pub invariant-loop-i : goal.invariant-loop-i
invariant-loop-i l = take l.i l.out ≡ take l.i (filled (length l.out) l.bytes l.rest)
