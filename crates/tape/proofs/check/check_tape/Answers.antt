-- `tape::check::check_tape` meets its contract: the length, then the nodes, then their number. Assumes nothing.
use mathlib.Core.Path.{sym, ◌∙◌}
use native.Mathlib.Omega.{arith}
use Rattle.std.proofs.lemmas.Result.{err_from_is_err_and}
use Rattle.tape.proofs.CodeVerdict.{refuse_misfit, refuse_count, accept}
use Rattle.tape.proofs.check.check_tape.Goals as goal

pub returns-in_err-end : goal.returns-in_err-end
returns-in_err-end c =
    let p = err_from_is_err_and c.from_residual.result c.from_residual.ensures.1 in
    rw (p.1, p.2) (refuse_misfit c.args.tape.now _ c.in_err-end.ensures)

pub check_nodes-requires : goal.check_nodes-requires
check_nodes-requires c = let n = c.in_ok-end.ensures.end in record { from_le_end = omega arith; end_in_bounds = omega arith }

pub returns-then-claimed-c : goal.returns-then-claimed-c
returns-then-claimed-c c = refuse_count c.args.tape.now _ c.in_ok-end.ensures _ c.in-Ok.ensures (λ e. c.if-claimed-c.true (c.u32_at-claimed.ensures.0 ∙ e))

pub returns : goal.returns
returns c = accept c.args.tape.now _ c.in_ok-end.ensures _ c.in-Ok.ensures (sym c.u32_at-claimed.ensures.0 ∙ c.if-claimed-c.false)
