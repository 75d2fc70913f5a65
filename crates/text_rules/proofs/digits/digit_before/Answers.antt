-- `digits::digit_before` meets its contract. Assumes nothing.
use mathlib.Core.Path.{◌≡◌, ap, ◌∙◌}
use Prim.Native.Nat.{ℕ, ◌/◌, ◌%◌, ◌^◌, ◌≤◌}
use native.Mathlib.Nat.{pow-le-pow_right, div-eq_of_lt}
use native.Mathlib.Omega.{arith}
use lib.Dec.{lit<}
use Rattle.text_rules.specs.Digits.{digit}
use Rattle.text_rules.proofs.digits.digit_before.Goals as goal

pub returns-else-k-lt20 : goal.returns-else-k-lt20
returns-else-k-lt20 c =
    let n = c.args.n in
    let k = c.args.k in
    let t : 10 ^ 20 ≤ 10 ^ k = pow-le-pow_right (lit< tt) c.if-k-lt20.false in
    let z : n / 10 ^ k ≡ 0 = div-eq_of_lt (omega arith) in
    rw z

pub returns-then-k-lt20 : goal.returns-then-k-lt20
returns-then-k-lt20 c = c.digit_of.ensures ∙ ap (λ (p : ℕ). digit (c.args.n / p % 10)) c.pow10.ensures.0
