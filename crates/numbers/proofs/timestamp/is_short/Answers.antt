-- `timestamp::is_short` meets its contract. Assumes nothing.
use native.Mathlib.Omega.{arith}
use borrow.Author.Tests.{ltb-true}
use Rattle.numbers.proofs.TimestampStores.{five-small}
use Rattle.numbers.proofs.timestamp.is_short.Goals as goal

pub returns-then-t-lt10000 : goal.returns-then-t-lt10000
returns-then-t-lt10000 c =
    let t = c.args.t in
    λ h.
    let s = five-small t.month t.day t.hour t.minute t.second (ltb-true _ _ h) in
    (omega arith, s.0, s.1, s.2, s.3, s.4)
