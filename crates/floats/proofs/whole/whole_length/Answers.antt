-- `floats::whole::whole_length` meets its contract. Assumes nothing.
use Prim.Native.Nat.{◌+◌, ◌-◌}
use mathlib.Core.Path.{sym, ap, ◌∙◌}
use native.Mathlib.Omega.{arith}
use Rattle.text_rules.specs.Digits.{count}
use Rattle.floats.specs.Whole.{whole_text}
use Rattle.floats.proofs.WholeLaws.{length_one, length_more}
use Rattle.floats.proofs.whole.whole_length.Goals as goal

pub returns-then-n-eq0 : goal.returns-then-n-eq0
unfolding whole_text
returns-then-n-eq0 c = rw c.if-n-eq0.true

pub returns-then-w-eq1 : goal.returns-then-w-eq1
returns-then-w-eq1 c =
    let x = c.args in
    let m = c.significant_of in
    let d = c.digit_count-w.ensures.0 in
    let e = c.digit_count-x.ensures.0 ∙ ap (count 19) (ap (λ k. k - 1) c.digit_count.ensures.0) in
    ap (λ k. 2 + k) e ∙ sym (length_one x.n m.result (omega (arith, c.if-n-eq0.false)) m.ensures (sym d ∙ c.if-w-eq1.true))

pub returns : goal.returns
returns c =
    let x = c.args in
    let m = c.significant_of in
    let d = c.digit_count-w.ensures in
    let e = c.digit_count-x.ensures.0 ∙ ap (count 19) (ap (λ k. k - 1) c.digit_count.ensures.0) in
    rw (d.0, e) (sym (length_more x.n m.result (omega (arith, c.if-n-eq0.false)) m.ensures (omega (arith, d, c.if-w-eq1.false))))
