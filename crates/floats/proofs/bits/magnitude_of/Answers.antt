-- `floats::bits::magnitude_of` meets its contract. Assumes nothing.
use mathlib.Core.Path.{◌≡◌, sym, ap, ◌∙◌}
use Prim.Native.Nat.{ℕ, ◌+◌, ◌-◌, ◌*◌, ◌/◌, ◌^◌, ◌≤◌}
use native.Mathlib.Omega.{arith}
use native.Mathlib.Nat.{mul-div_cancel, div-mul-le_self}
use lib.Pow.{pow_pos}
use Rattle.floats.proofs.ValueBits.{exponent, fraction, told_if, zero-told, low_told, part-told, over_told, most_told, past_told, some-told, none_told}
use Rattle.floats.proofs.bits.magnitude_of.Goals as goal

pub returns-then-e-eq0 : goal.returns-then-e-eq0
returns-then-e-eq0 c =
    let b = c.args.bits in
    rw c.then_some.ensures (told_if (fraction b) 0 0 _ (λ h. zero-told b (omega arith) h) (λ h. low_told b (omega arith) (omega (arith, h))))

pub returns-then-e-lt1023 : goal.returns-then-e-lt1023
returns-then-e-lt1023 c = sym (part-told c.args.bits (omega arith) (omega arith))

pub returns-then-e-gt1076 : goal.returns-then-e-gt1076
returns-then-e-gt1076 c = sym (over_told c.args.bits (omega arith))

pub returns-then-e-eq1076 : goal.returns-then-e-eq1076
returns-then-e-eq1076 c =
    let b = c.args.bits in
    rw c.then_some-then-e-eq1076.ensures (told_if (fraction b) 0 9007199254740992 _ (λ h. most_told b (omega arith) h) (λ h. past_told b (omega arith) (omega (arith, h))))

pub returns-then-n-i : goal.returns-then-n-i
returns-then-n-i c =
    let b = c.args.bits in
    let p = 2 ^ (1075 - exponent b) in
    let q = 4_503_599_627_370_496 + fraction b in
    let l : q / p * p ≤ q = div-mul-le_self q p in
    sym (some-told b (q / p) (omega arith) (omega arith) (omega (arith, l, c.if-n-i.true)))

pub returns : goal.returns
returns c =
    let b = c.args.bits in
    let i = 1075 - exponent b in
    let q = 4_503_599_627_370_496 + fraction b in
    sym (none_told b (omega arith) (omega arith) (λ n e.
    let d : q / 2 ^ i * 2 ^ i ≡ q = ap (λ (x : ℕ). x * 2 ^ i) (ap (λ (y : ℕ). y / 2 ^ i) (sym e) ∙ mul-div_cancel n (pow_pos i)) ∙ e in
    omega (arith, d, c.if-n-i.false)))
