-- `blobs::bits_of` meets its contract. Its word has `A` in the four high places. Assumes nothing.
use native.Mathlib.Omega.{arith}
use mathlib.Core.Path.{sym, ◌∙◌}
use Rattle.tokens.proofs.BlobLanes.{bits-refused, bits-read}
use Rattle.tokens.proofs.blobs.bits_of.Goals as goal

pub returns-then-not-is_base64-clause-bits : goal.returns-then-not-is_base64-clause-bits
returns-then-not-is_base64-clause-bits c =
    let a = c.args in
    bits-refused a.a a.b a.c a.d _ (omega arith) (omega arith) (omega arith) (omega arith) (omega arith) (sym c.is_base64.ensures ∙ c.if-not-is_base64.true)

pub returns : goal.returns
returns c =
    let a = c.args in
    let b = bits-read a.a a.b a.c a.d _ (omega arith) (omega arith) (omega arith) (omega arith) (omega arith) _ (sym c.is_base64.ensures ∙ c.if-not-is_base64.false) c.values-v.ensures in
    record { bits = b.is; below = b.below }
