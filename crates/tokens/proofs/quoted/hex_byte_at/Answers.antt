-- `quoted::hex_byte_at` meets its contract. Assumes nothing.
use native.Mathlib.Omega.{arith}
use Rattle.tokens.proofs.QuotedSteps.{hex_byte}
use Rattle.tokens.proofs.Keeping.{kept_all}
use Rattle.tokens.proofs.quoted.hex_byte_at.Goals as goal

pub returns-in_err-v : goal.returns-in_err-v
returns-in_err-v c = rw c.from_residual.ensures record { told = (rw c.in_err-v.ensures.told, kept_all) }

pub overflow_cast-v : goal.overflow_cast-v
overflow_cast-v c = omega (arith, c.in_ok-v.ensures.told.2)

pub overflow_add-result : goal.overflow_add-result
overflow_add-result c = omega (arith, c.in_ok-v.ensures.told.1)

pub returns : goal.returns
returns c =
    let h = c.in_ok-v.ensures in
    record { told = (_, hex_byte _ _ _ h.told.0, omega arith, h.told.1, c.put-p.ensures) }
