-- `digits::two` meets its contract. Assumes nothing.
use mathlib.Core.Path.{◌≡◌}
use Prim.Native.Nat.{◌/◌, ◌%◌}
use native.Mathlib.Numerals.{add-one}
use native.Mathlib.Omega.{arith}
use lib.ListN.{length-set}
use Rattle.text_rules.specs.Digits.{digit, pad}
use Rattle.text_rules.proofs.digits.two.Goals as goal

pub bounds-buf-p-2 : goal.bounds-buf-p-2
bounds-buf-p-2 c = simp length-set (omega arith)

pub returns : goal.returns
unfolding pad
returns c =
    let x = c.args.x in
    let d : c.digit_of.result ≡ digit (x / 10 % 10) = omega (arith, c.digit_of.ensures) in
    let e : c.digit_of-2.result ≡ digit (x % 10) = omega (arith, c.digit_of-2.ensures) in
    rw (d, e, add-one c.args.p)
