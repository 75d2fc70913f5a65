-- `order::compare_shifted` meets its contract. Assumes nothing.
use Rattle.std.proofs.Common.{ℕ, ◌-◌, ◌*◌, ◌^◌, sym, ap, ◌∙◌, arith}
use Rattle.std.specs.Ordering.{nat_cmp, ordering_reverse}
use Rattle.order.proofs.CodeLaws.{turned-numbers, unscaled}
use Rattle.order.proofs.compare_shifted.Goals as goal

pub returns-then-y-x : goal.returns-then-y-x
returns-then-y-x c = let a = c.args in c.compare_scaled.ensures ∙ ap (nat_cmp (a.m * 10 ^ (a.x - a.y))) (sym (unscaled a.n a.x a.y c.if-y-x.true))

pub returns : goal.returns
returns c =
    let a = c.args in
    let l = c.if-y-x.false in
    c.reverse.ensures
    ∙ ap ordering_reverse c.compare_scaled-2.ensures
    ∙ turned-numbers (a.n * 10 ^ (a.y - a.x)) a.m
    ∙ ap (λ (i : ℕ). nat_cmp i (a.n * 10 ^ (a.y - a.x))) (sym (unscaled a.m a.y a.x (omega arith)))
