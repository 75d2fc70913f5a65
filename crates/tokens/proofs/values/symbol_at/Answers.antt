-- `values::symbol_at` meets its contract. Assumes nothing.
use native.Mathlib.Omega.{arith}
use Rattle.tokens.proofs.SymbolSteps.{symbol_end, symbol_unquoted, symbol-quoted, symbol-broken}
use Rattle.tokens.proofs.Keeping.{kept_all}
use Rattle.tokens.proofs.values.symbol_at.Goals as goal

pub returns-then-at-text : goal.returns-then-at-text
returns-then-at-text c = symbol_end _ c.args.text.now c.args.at c.if-at-text.true kept_all

pub returns-then-text-at-ne39 : goal.returns-then-text-at-ne39
returns-then-text-at-ne39 c =
    symbol_unquoted _ c.args.text.now c.args.at c.bare_symbol_at.result (omega (arith, c.if-at-text.false, c.requires)) c.if-text-at-ne39.true c.bare_symbol_at.ensures

pub returns-in_err-s : goal.returns-in_err-s
returns-in_err-s c =
    rw c.from_residual.ensures (symbol-broken _ c.args.text.now c.args.at (omega (arith, c.if-at-text.false, c.requires)) c.if-text-at-ne39.false _ c.in_err-s.ensures)

pub returns : goal.returns
returns c =
    symbol-quoted _ c.args.text.now c.args.at (omega (arith, c.if-at-text.false, c.requires)) c.if-text-at-ne39.false _ _ _ (omega arith) c.in_ok-s.ensures
