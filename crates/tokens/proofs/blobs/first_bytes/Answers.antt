-- `blobs::first_bytes` meets its contract. Assumes nothing.
use mathlib.Core.Path.{◌≡◌, refl}
use Prim.Native.Nat.{◌%◌}
use Rattle.tokens.proofs.BlobWrites.{first-odd, first-whole, last-odd, last_even}
use Rattle.tokens.proofs.blobs.first_bytes.Goals as goal
use Rattle.tokens.proofs.blobs.first_bytes.Goals.{else-width-eq1-via-then-width-eq1+else-n-ne0, else-width-eq1-via-else-width-eq1}

pub returns-then-n-ne0 : goal.returns-then-n-ne0
returns-then-n-ne0 c = record { told = (first-odd _ _ (rw c.if-width-eq1.true c.if-n-ne0.true), refl) }

pub returns-then-n-ne0-2 : goal.returns-then-n-ne0-2
returns-then-n-ne0-2 c =
    let a = c.args in
    record { told = (first-odd _ _ (last-odd a.n a.width c.requires.1 c.requires.2 c.if-n-ne0-2.true), refl) }

pub returns : goal.returns
returns c =
    let a = c.args in
    let one : a.width ≡ 1 → a.n % 65536 ≡ 0 = elim c.else-width-eq1.branch [ else-width-eq1-via-then-width-eq1+else-n-ne0 w ↦ (λ e. w.if-n-ne0.false) | else-width-eq1-via-else-width-eq1 w ↦ (λ e. absurd (w.if-width-eq1.false e)) ] in
    record { told = (_, first-whole _ _ (last_even a.n a.width c.requires.1 c.requires.2 one c.if-n-ne0-2.false), refl, c.put_bytes24-p.ensures) }
