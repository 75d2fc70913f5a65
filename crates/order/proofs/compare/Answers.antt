-- `order::compare` meets its contract. Assumes nothing.
use Rattle.std.proofs.Common.{◌≡◌, sym, ap, ◌∙◌, rules}
use Rattle.std.specs.Prelude.{Ok, Err}
use Rattle.tape.proofs.Walking.{verdict-told}
use Rattle.order.proofs.TapeLaws.{body_fine, first-refused, second-refused, both_accepted, all_equal}
use Rattle.order.proofs.compare.Goals as goal

pub returns-in_err-check_tape : goal.returns-in_err-check_tape
returns-in_err-check_tape c =
    let q : c.from_residual.result ≡ Err c.in_err-check_tape.field-0.0 = search rules in
    rw q (first-refused c.args.a.now c.args.b.now _ (sym c.in_err-check_tape.ensures.fault))

pub returns-in_err-check_tape-2 : goal.returns-in_err-check_tape-2
returns-in_err-check_tape-2 c =
    let q : c.from_residual-in_err-check_tape-2.result ≡ Err c.in_err-check_tape-2.field-0.0 = search rules in
    rw q (second-refused c.args.a.now c.args.b.now _ (sym c.in_ok-check_tape.ensures.fault) (sym c.in_err-check_tape-2.ensures.fault))

pub overflow_sub-ea : goal.overflow_sub-ea
overflow_sub-ea c = (verdict-told c.args.a.now (sym c.in_ok-check_tape.ensures.fault)).least

pub overflow_sub-eb : goal.overflow_sub-eb
overflow_sub-eb c = (verdict-told c.args.b.now (sym c.in_ok-check_tape-2.ensures.fault)).least

pub returns-then-n-eb : goal.returns-then-n-eb
returns-then-n-eb c = sym (all_equal c.args.a.now c.args.b.now (sym c.in_ok-check_tape.ensures.fault) (sym c.in_ok-check_tape-2.ensures.fault) c.equal_bytes-n.ensures c.if-n-ea.true c.if-n-eb.true)

pub compare_nodes-requires : goal.compare_nodes-requires
compare_nodes-requires c = record { body = body_fine c.args.a.now (sym c.in_ok-check_tape.ensures.fault); body_2 = body_fine c.args.b.now (sym c.in_ok-check_tape-2.ensures.fault); shared = c.equal_bytes-n.ensures }

pub returns : goal.returns
returns c = ap Ok c.compare_nodes.ensures ∙ sym (both_accepted c.args.a.now c.args.b.now (sym c.in_ok-check_tape.ensures.fault) (sym c.in_ok-check_tape-2.ensures.fault))
