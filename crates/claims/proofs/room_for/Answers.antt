-- `claims::room_for` meets its contract. Assumes nothing.
use Rattle.claims.proofs.room_for.Goals as goal

pub returns-then-k-eq0 : goal.returns-then-k-eq0
returns-then-k-eq0 c = rw (c.if-less.true, c.if-k-eq0.true)

pub returns-then-less : goal.returns-then-less
returns-then-less c = rw c.if-less.true
