-- `listing::report::difference` meets its contract. Assumes nothing.
use Rattle.listing.proofs.report.difference.Goals as goal

pub returns : goal.returns
returns g c = record { exactly = rw c.count.ensures.value; kept = c.count.ensures.grows }
