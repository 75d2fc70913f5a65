-- `order::compare_values` meets its contract. Assumes nothing.
use Rattle.std.proofs.Common.{◌-◌, ◌^◌, sym, ◌∙◌}
use Rattle.text_rules.proofs.DigitLaws.{pow_pos10}
use Rattle.order.proofs.CodeLaws.{mixed_left, mixed_right, mixed_less, mixed_greater}
use Rattle.order.proofs.compare_values.Goals as goal

pub returns-then-m-eq0 : goal.returns-then-m-eq0
returns-then-m-eq0 c =
    let a = c.args in
    rw (c.in-true-false.is-0, c.in-true-false.is-1) (c.cmp.ensures ∙ sym (mixed_left a.m a.n (10 ^ (a.x - a.y)) (10 ^ (a.y - a.x)) (pow_pos10 (a.x - a.y)) (pow_pos10 (a.y - a.x)) c.if-m-eq0.true))

pub returns-else-m-eq0 : goal.returns-else-m-eq0
returns-else-m-eq0 c =
    let a = c.args in
    rw (c.in-true-false.is-0, c.in-true-false.is-1) (sym (mixed_less a.m a.n (10 ^ (a.x - a.y)) (10 ^ (a.y - a.x)) (pow_pos10 (a.x - a.y)) (pow_pos10 (a.y - a.x)) c.if-m-eq0.false))

pub returns-then-m-eq0-2 : goal.returns-then-m-eq0-2
returns-then-m-eq0-2 c =
    let a = c.args in
    rw (c.in-false-true.is-0, c.in-false-true.is-1) (c.cmp-then-m-eq0-2.ensures ∙ sym (mixed_right a.m a.n (10 ^ (a.x - a.y)) (10 ^ (a.y - a.x)) (pow_pos10 (a.x - a.y)) (pow_pos10 (a.y - a.x)) c.if-m-eq0-2.true))

pub returns-else-m-eq0-2 : goal.returns-else-m-eq0-2
returns-else-m-eq0-2 c =
    let a = c.args in
    rw (c.in-false-true.is-0, c.in-false-true.is-1) (sym (mixed_greater a.m a.n (10 ^ (a.x - a.y)) (10 ^ (a.y - a.x)) (pow_pos10 (a.x - a.y)) (pow_pos10 (a.y - a.x)) c.if-m-eq0-2.false))
