-- `values::null_behind` meets its contract. Assumes nothing.
use native.Mathlib.Omega.{arith}
use mathlib.Core.Path.{refl, sym}
use Rattle.tokens.proofs.TokensLaws.{null-end, null-plain, null_typed, null_untyped}
use Rattle.tokens.proofs.values.null_behind.Goals as goal
use Rattle.tokens.proofs.values.null_behind.Goals.{then-at-text-via-then-at-text, then-at-text-via-else-at-text+then-text-at-ne46}

pub returns-then-at-text : goal.returns-then-at-text
returns-then-at-text c =
    elim c.then-at-text.branch [ then-at-text-via-then-at-text w ↦ null-end c.args.text.now c.args.at w.if-at-text.true | then-at-text-via-else-at-text+then-text-at-ne46 w ↦ null-plain c.args.text.now c.args.at (omega arith) w.if-text-at-ne46.true ]

pub returns-in_err-t : goal.returns-in_err-t
returns-in_err-t c =
    rw c.from_residual.ensures (null_untyped c.args.text.now c.args.at (omega arith) c.if-text-at-ne46.false c.word_end-e.ensures _ (sym c.in_err-t.ensures) refl)

pub returns : goal.returns
returns c =
    null_typed c.args.text.now c.args.at (omega arith) c.if-text-at-ne46.false c.word_end-e.ensures _ (sym c.in_ok-t.ensures) _ refl
