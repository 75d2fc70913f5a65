-- `timestamp::fixed_at` meets its contract. Assumes nothing.
use mathlib.Core.Path.{◌≡◌, sym, ap, ◌∙◌}
use Prim.Native.Nat.{ℕ, suc, ◌+◌, ◌-◌, ◌^◌, ◌≤◌}
use native.Mathlib.Nat.{pow-suc, pow-le-pow_right}
use native.Mathlib.Omega.{arith}
use lib.Dec.{lit<}
use lib.ListN.{drop}
use Rattle.text_rules.proofs.DigitLaws.{digit_range}
use Rattle.numbers.specs.TimestampRead.{joined}
use Rattle.numbers.proofs.TimestampPlaces.{joined-stop, joined-turn, digit_here}
use Rattle.text_rules.proofs.ReadingLaws.{refused}
use Rattle.numbers.proofs.timestamp.fixed_at.Goals as goal

pub returns-then-not-stands_digit : goal.returns-then-not-stands_digit
returns-then-not-stands_digit c =
    let l = c.loop-i in
    let x = c.args in
    let e : x.at + x.w - l.i ≡ suc (x.at + x.w - l.i - 1) = omega (arith, c.loop-i-test.true) in
    refused (l.invariant.2 ∙ ap (λ (k : ℕ). joined l.n k (drop l.i x.text.now)) e ∙ joined-stop _ l.n _ (sym c.stands_digit.ensures ∙ c.if-not-stands_digit.true))

pub bounds-text-i : goal.bounds-text-i
bounds-text-i c = (digit_here c.args.text.now c.loop-i.i (sym c.stands_digit.ensures ∙ c.if-not-stands_digit.false)).0

pub overflow_sub-n : goal.overflow_sub-n
overflow_sub-n c = (digit_range _ (digit_here c.args.text.now c.loop-i.i (sym c.stands_digit.ensures ∙ c.if-not-stands_digit.false)).1).0

pub overflow_mul-n : goal.overflow_mul-n
overflow_mul-n c =
    let l = c.loop-i in
    let k : l.i - c.args.at ≤ 9 = omega (arith, c.loop-i-test.true, c.requires.1) in
    let p : 10 ^ (l.i - c.args.at) ≤ 10 ^ 9 = pow-le-pow_right (lit< tt) k in
    record { fits = omega (arith, l.invariant.1) }

pub overflow_add-n : goal.overflow_add-n
overflow_add-n c =
    let l = c.loop-i in
    let k : l.i - c.args.at ≤ 9 = omega (arith, c.loop-i-test.true, c.requires.1) in
    let p : 10 ^ (l.i - c.args.at) ≤ 10 ^ 9 = pow-le-pow_right (lit< tt) k in
    let r = digit_range _ (digit_here c.args.text.now c.loop-i.i (sym c.stands_digit.ensures ∙ c.if-not-stands_digit.false)).1 in
    record { fits = omega (arith, l.invariant.1, r) }

pub loop-i-preserved : goal.loop-i-preserved
loop-i-preserved c =
    let l = c.loop-i in
    let x = c.args in
    let t = x.text.now in
    let k = x.at + x.w - (l.i + 1) in
    let e : x.at + x.w - l.i ≡ suc k = omega (arith, c.loop-i-test.true) in
    let j : l.i + 1 - x.at ≡ suc (l.i - x.at) = omega (arith, l.auto.i) in
    let d = digit_here t l.i (sym c.stands_digit.ensures ∙ c.if-not-stands_digit.false) in
    let r = digit_range _ d.1 in
    (omega (arith, d.0), rw (j, pow-suc 10 (l.i - x.at)) (omega (arith, l.invariant.1, r)), l.invariant.2 ∙ ap (λ (k : ℕ). joined l.n k (drop l.i t)) e ∙ joined-turn t l.i l.n k d.0 d.1)

pub returns : goal.returns
unfolding joined
returns c =
    let l = c.loop-i in
    let x = c.args in
    let i : l.i ≡ x.at + x.w = omega (arith, c.loop-i-test.false, l.auto.i-end) in
    let e : x.at + x.w - l.i ≡ 0 = omega (arith, c.loop-i-test.false) in
    record { is = l.invariant.2 ∙ rw (e, i); place = (omega arith, omega (arith, i, l.invariant.0)) }
