-- `numbers::numeral::exponent_of` meets its contract. Assumes nothing.
use mathlib.Core.Path.{◌≡◌, ap, ◌∙◌}
use native.Mathlib.Omega.{arith}
use lib.IntN.{pos, neg_ℤ, ◌-ℤ◌}
use mir.Syntax.{w128}
use mir.Val.{to_z, of_z}
use Rattle.std.proofs.lemmas.Int.{ints}
use Rattle.numbers.specs.Numeral.{in_i32, shifted}
use Rattle.numbers.proofs.Signed.{in_i32-told}
use Rattle.numbers.proofs.numeral.exponent_of.Goals as goal
use Rattle.numbers.proofs.numeral.exponent_of.Goals.{then-minus, else-minus}

pub returns : goal.returns
unfolding shifted
returns c =
    let x = c.args in
    rw c.ok.ensures.value (in_i32-told c.try_from.result _ c.try_from.ensures ∙ elim c.if-minus.branch [
      | then-minus w ↦ (let z : to_z w128 (of_z w128 (to_z w128 c.if-minus.written-bits -ℤ to_z w128 x.n)) ≡ neg_ℤ (pos x.e) -ℤ pos x.n = omega (arith, ints, w.written-is) in rw w.if-minus.true (ap in_i32 z))
      | else-minus w ↦ (let z : to_z w128 (of_z w128 (to_z w128 c.if-minus.written-bits -ℤ to_z w128 x.n)) ≡ pos x.e -ℤ pos x.n = omega (arith, ints, w.written-is) in rw w.if-minus.false (ap in_i32 z))
    ])
