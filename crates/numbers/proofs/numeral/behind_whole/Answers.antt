-- `numbers::numeral::behind_whole` meets its contract. Assumes nothing.
use native.Mathlib.Omega.{arith}
use Prim.Native.Nat.{◌+◌, ◌-◌}
use mathlib.Core.Path.{◌≡◌, refl, sym}
use lib.ListN.{length, drop}
use Rattle.numbers.specs.Numeral.{behind_whole}
use Rattle.text_rules.specs.Digits.{run}
use Rattle.numbers.proofs.NumeralLaws.{point_over}
use Rattle.text_rules.proofs.ReadingLaws.{refused, reads_from}
use Rattle.text_rules.proofs.Places.{next}
use Rattle.numbers.proofs.numeral.behind_whole.Goals as goal

pub digits_at-requires : goal.digits_at-requires
digits_at-requires c = omega (arith, c.if-stands.ensures.inside refl)

pub overflow_sub-end : goal.overflow_sub-end
overflow_sub-end c =
    let x = c.args in
    let t = x.text.now in
    let v = c.in_ok-k.ensures in
    omega (arith, v.2)

pub behind_point-requires : goal.behind_point-requires
behind_point-requires c =
    let x = c.args in
    let t = x.text.now in
    let v = c.in_ok-k.ensures in
    v.3

pub returns-then-stands : goal.returns-then-stands
unfolding behind_whole
returns-then-stands c =
    let x = c.args in
    let t = x.text.now in
    let v = c.in_ok-k.ensures in
    let n : length (run (drop (x.at + 1) t)) ≡ c.in_ok-k.end - (x.at + 1) = omega (arith, v.2) in
    rw (sym c.if-stands.ensures.is, next t x.at, v.0, v.1, n) (reads_from c.behind_point.ensures (omega (arith, v.2)))

pub returns-in_err-k : goal.returns-in_err-k
unfolding behind_whole
returns-in_err-k c =
    let x = c.args in
    let t = x.text.now in
    let v = c.in_err-k.ensures in
    rw c.from_residual.ensures (refused (rw (sym c.if-stands.ensures.is, next t x.at) (point_over _ _ _ _ v)))

pub behind_d-requires : goal.behind_d-requires
behind_d-requires c = omega (arith, c.if-stands-2.ensures.inside refl)

pub returns-then-stands-2 : goal.returns-then-stands-2
unfolding behind_whole
returns-then-stands-2 c =
    let x = c.args in
    let t = x.text.now in
    rw (sym c.if-stands.ensures.is, sym c.if-stands-2.ensures.is, next t x.at) (reads_from c.behind_d.ensures (omega arith))

pub returns : goal.returns
unfolding behind_whole
returns c =
    let x = c.args in
    let t = x.text.now in
    rw (sym c.if-stands.ensures.is, sym c.if-stands-2.ensures.is) (c.int_of.ensures t c.requires)
