-- `order::compare_times` meets its contract. Assumes nothing.
use Rattle.std.proofs.Common.{◌≡◌, ◌∙◌}
use Rattle.std.specs.Ordering.{nat_cmp}
use Rattle.order.specs.Order.{integers}
use Rattle.order.proofs.Combine.{int_cmp_is}
use Rattle.order.proofs.CodeLaws.{then_equal}
use Rattle.order.proofs.compare_times.Goals as goal

pub returns : goal.returns
returns c =
    let x = c.args.x in
    let y = c.args.y in
    let offsets : c.cmp.result ≡ integers x.offset y.offset = c.cmp.ensures ∙ int_cmp_is x.offset y.offset in
    let last = then_equal (nat_cmp x.fraction y.fraction) in
    cc
