-- `tape::check::body_end` meets its contract. Assumes nothing.
use mathlib.Core.Path.{sym, ap, ◌∙◌}
use Prim.Native.Nat.{ℕ, ◌+◌}
use native.Mathlib.Omega.{arith}
use Rattle.tape.proofs.CodeVerdict.{misfit_short, misfit_long, misfit_body, fits, misfits, body_fits}
use Rattle.tape.proofs.check.body_end.Goals as goal
use Rattle.tape.proofs.check.body_end.Goals.{then-n-lt8-via-then-n-lt8, then-n-lt8-via-else-n-lt8+then-n-gt1048576}

pub returns-then-n-lt8 : goal.returns-then-n-lt8
returns-then-n-lt8 c =
    misfits c.args.tape.now (elim c.then-n-lt8.branch [
      | then-n-lt8-via-then-n-lt8 w ↦ misfit_short _ w.if-n-lt8.true
      | then-n-lt8-via-else-n-lt8+then-n-gt1048576 w ↦ misfit_long _ w.if-n-gt1048576.true
    ])

pub returns-then-u32_at-n : goal.returns-then-u32_at-n
returns-then-u32_at-n c = misfits c.args.tape.now (misfit_body _ (λ e. c.if-u32_at-n.true (ap (λ (i : ℕ). i + 8) c.u32_at.ensures.0 ∙ e)))

pub returns : goal.returns
returns c =
    let n = c.if-n-lt8.false in
    body_fits _ _ (fits _ n c.if-n-gt1048576.false (ap (λ (i : ℕ). i + 8) (sym c.u32_at.ensures.0) ∙ c.if-u32_at-n.false)) (omega arith) c.if-n-gt1048576.false
