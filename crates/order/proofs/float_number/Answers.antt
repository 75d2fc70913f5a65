-- `order::float_number` meets its contract. Assumes nothing.
use mathlib.Core.Path.{sym, ◌∙◌}
use Rattle.floats.proofs.ValueLaws.{magnitude_most}
use Rattle.order.proofs.FloatLaws.{whole-told}
use Rattle.order.proofs.float_number.Goals as goal

pub signed_number-requires : goal.signed_number-requires
signed_number-requires c =
    let v = c.in-Some.ensures in
    magnitude_most _ _ (sym v)

pub returns-in-Some : goal.returns-in-Some
returns-in-Some c =
    let v = c.in-Some.ensures in
    c.signed_number.ensures ∙ whole-told c.args.b c.ranges.b.fits _ v
