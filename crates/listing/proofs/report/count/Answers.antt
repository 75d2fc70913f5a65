-- `listing::report::count` meets its contract. Assumes nothing.
use borrow.Author.Tests.{lt-ltb, le-ltb}
use Rattle.listing.specs.Seen.{one_more}
use Rattle.listing.proofs.report.count.Goals as goal

pub returns-then-n-lt4294967295-clause-value : goal.returns-then-n-lt4294967295-clause-value
unfolding one_more
returns-then-n-lt4294967295-clause-value c = rw (lt-ltb _ _ c.if-n-lt4294967295.true)

pub returns-else-n-lt4294967295-clause-value : goal.returns-else-n-lt4294967295-clause-value
unfolding one_more
returns-else-n-lt4294967295-clause-value c = rw (le-ltb _ _ c.if-n-lt4294967295.false)
