-- `field_index::fields::opened` meets its contract. Assumes nothing.
use Rattle.std.proofs.Common.{sym, ◌∙◌, arith}
use Rattle.std.proofs.lemmas.Result.{err_from_is_err_and}
use Rattle.tape.proofs.CodeWalk.{fault_some}
use Rattle.field_index.proofs.IndexLaws.{tape-refused, no_struct, too_many, struct_opened}
use Rattle.field_index.proofs.fields.opened.Goals as goal

pub returns-in_err-check_tape : goal.returns-in_err-check_tape
returns-in_err-check_tape c =
    let f = sym c.in_err-check_tape.ensures.fault in
    let r = err_from_is_err_and c.from_residual.result c.from_residual.ensures.1 in
    rw r.1 (tape-refused c.args.tape.now c.args.at c.args.m (λ z. fault_some _ (sym f ∙ z)) ∙ f ∙ sym r.2)

pub returns-in_default : goal.returns-in_default
returns-in_default c = no_struct c.args.tape.now c.args.at c.args.m (sym c.in_ok-check_tape.ensures.fault) c.in_default.ensures

pub returns-then-m-count : goal.returns-then-m-count
returns-then-m-count c =
    let n = c.field_count-count.ensures in
    too_many c.args.tape.now c.args.at c.args.m (sym c.in_ok-check_tape.ensures.fault) _ c.in-Some.ensures.found (omega arith)

pub returns : goal.returns
returns c =
    let s = c.in-Some.ensures in
    struct_opened c.args.tape.now c.args.at c.args.m _ _ (sym c.in_ok-check_tape.ensures.fault) s.body s.found c.field_count-count.ensures c.if-m-count.false
