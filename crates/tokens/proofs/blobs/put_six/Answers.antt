-- `blobs::put_six` meets its contract. Assumes nothing.
use Rattle.tokens.proofs.BlobWrites.{wrote_six}
use native.Mathlib.Omega.{arith}
use borrow.Author.Rules.{rules}
use Rattle.tokens.proofs.blobs.put_six.Goals as goal

pub returns-then-pos-saturating_sub : goal.returns-then-pos-saturating_sub
returns-then-pos-saturating_sub c =
    let a = c.args in
    wrote_six a.pos a.w c.store.ensures c.store-then-pos-saturating_sub.ensures (omega arith) (search rules)
