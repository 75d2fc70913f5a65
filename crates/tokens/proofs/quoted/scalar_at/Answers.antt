-- `quoted::scalar_at` meets its contract. Assumes nothing.
use mathlib.Core.Path.{sym, ◌∙◌}
use native.Mathlib.Omega.{arith}
use Rattle.tokens.proofs.QuotedSteps.{scalar-none, scalar_no, scalar-yes}
use Rattle.text_rules.proofs.Utf8Scalar.{scalar-small}
use Rattle.tokens.proofs.Keeping.{kept_all}
use borrow.Author.Rules.{rules}
use Rattle.tokens.proofs.quoted.scalar_at.Goals as goal

pub returns-in_err-v : goal.returns-in_err-v
returns-in_err-v c =
    rw c.from_residual.ensures record { told = (scalar-none _ _ c.in_err-v.ensures.told, kept_all) }

pub returns-then-not-is_scalar : goal.returns-then-not-is_scalar
returns-then-not-is_scalar c =
    let h = c.in_ok-v.ensures in
    record { told = (scalar_no _ _ _ _ h.told.0 (sym c.is_scalar.ensures ∙ c.if-not-is_scalar.true), kept_all) }

pub put_utf8-p-requires : goal.put_utf8-p-requires
put_utf8-p-requires c = scalar-small _ (sym c.is_scalar.ensures ∙ c.if-not-is_scalar.false)

pub overflow_add-result : goal.overflow_add-result
overflow_add-result c =
    let h = c.in_ok-v.ensures in
    omega (arith, h.told.1)

pub returns : goal.returns
returns c =
    let h = c.in_ok-v.ensures in
    record { told = (_, scalar-yes _ _ _ _ h.told.0 (sym c.is_scalar.ensures ∙ c.if-not-is_scalar.false), omega arith, h.told.1, c.put_utf8-p.ensures) }
