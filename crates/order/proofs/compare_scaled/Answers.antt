-- `order::compare_scaled` meets its contract. Assumes nothing.
use Rattle.std.proofs.Common.{ℕ, ◌*◌, ◌/◌, sym, ap, ◌∙◌, arith}
use Rattle.std.specs.declared.cmp.Ordering.{Ordering}
use Rattle.std.specs.Ordering.{nat_cmp, ordering_then}
use Rattle.order.proofs.CodeLaws.{scaled_far, scaled_near}
use Rattle.order.proofs.compare_scaled.Goals as goal

pub returns-then-k-ge20 : goal.returns-then-k-ge20
returns-then-k-ge20 c = sym (scaled_far c.args.m c.args.k c.args.n c.if-m-eq0.false c.if-k-ge20.true (omega arith))

pub returns : goal.returns
returns c =
    let a = c.args in
    let p = c.pow10-p in
    c.then.ensures
    ∙ ap (λ (w : Ordering). ordering_then w c.cmp-3.result) c.cmp-2.ensures
    ∙ ap (ordering_then (nat_cmp a.m (a.n / p.result))) c.cmp-3.ensures
    ∙ scaled_near a.m a.n p.result p.ensures.1
    ∙ ap (λ (i : ℕ). nat_cmp (a.m * i) a.n) p.ensures.0
