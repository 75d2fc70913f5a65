-- `output::put_le` meets its contract. Assumes nothing.
use native.Mathlib.Omega.{arith}
use Rattle.output.proofs.Laws.{length-le}
use borrow.Author.Rules.{rules}
use Rattle.output.proofs.put_le.Goals as goal

pub returns-then-pos-saturating_sub : goal.returns-then-pos-saturating_sub
returns-then-pos-saturating_sub c =
    let a = c.args in
    record { bytes = c.store_low.ensures; count = rw (length-le a.width a.n) (omega arith); room = search rules }
