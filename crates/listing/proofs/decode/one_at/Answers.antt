-- `listing::decode::one_at` meets its contract. Assumes nothing.
use Rattle.listing.proofs.Spelled.{one_hex, one_marked, one_itself}
use Rattle.listing.proofs.decode.one_at.Goals as goal

pub returns-then-said-at-eq37 : goal.returns-then-said-at-eq37
returns-then-said-at-eq37 c =
    rw c.in-Text.is (one_marked c.args.said.now c.args.at c.requires c.if-said-at-eq37.true _ c.pair_at-then-said-at-eq37.ensures)

pub returns-in-Hex : goal.returns-in-Hex
returns-in-Hex c = rw c.in-Hex.is (one_hex c.args.said.now c.args.at c.requires _ c.pair_at.ensures)

pub returns-else-said-at-eq37 : goal.returns-else-said-at-eq37
returns-else-said-at-eq37 c = rw c.in-Text.is (one_itself c.args.said.now c.args.at c.requires c.if-said-at-eq37.false)
