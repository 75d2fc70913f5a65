-- `order::compare_decimals` meets its contract. Assumes nothing.
use Rattle.std.proofs.Common.{◌≡◌, ◌∙◌, ap}
use Rattle.std.specs.declared.cmp.Ordering.{Ordering}
use Rattle.std.specs.Ordering.{ordering_then}
use mir.Syntax.{w32}
use mir.Val.{to_z, of_z}
use mir.ValLaws.{to_z-of_z}
use Rattle.order.specs.Order.{integers, values}
use Rattle.order.specs.Steps.{Biased}
use Rattle.order.proofs.Combine.{int_cmp_is}
use Rattle.order.proofs.CodeLaws.{by_value, signs_is}
use Rattle.order.proofs.compare_decimals.Goals as goal

pub returns : goal.returns
returns c =
    let a = c.args in
    let g = c.ranges in
    let p : Biased 2147483648 (to_z w32 (of_z w32 a.e)) c.biased32.result = c.biased32.ensures in
    let q : Biased 2147483648 (to_z w32 (of_z w32 a.f)) c.biased32-2.result = c.biased32-2.ensures in
    let v : c.compare_values-by_value.result ≡ values (a.s, a.m, a.e) (a.t, a.n, a.f) =
    c.compare_values-by_value.ensures ∙ by_value 2147483648 a.s a.t a.m a.n a.e a.f _ _ (rw (to_z-of_z w32 a.e g.e) at p) (rw (to_z-of_z w32 a.f g.f) at q) in
    let e : c.cmp.result ≡ integers a.e a.f = rw (to_z-of_z w32 a.e g.e, to_z-of_z w32 a.f g.f) at c.cmp.ensures ∙ int_cmp_is a.e a.f in
    let s = signs_is a.s a.t in
    c.then-2.ensures
    ∙ ap (λ (w : Ordering). ordering_then w c.then.result) v
    ∙ ap (ordering_then (values (a.s, a.m, a.e) (a.t, a.n, a.f)))
    (c.then.ensures ∙ ap (λ (w : Ordering). ordering_then w c.cmp-2.result) e ∙ ap (ordering_then (integers a.e a.f)) (c.cmp-2.ensures ∙ s))
