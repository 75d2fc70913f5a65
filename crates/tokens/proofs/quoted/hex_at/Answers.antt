-- `quoted::hex_at` meets its contract. The invariant: the digits that are left, joined behind the number so far, are the whole. Assumes nothing.
use Prim.Native.Nat.{ℕ, suc, ◌+◌, ◌-◌, ◌*◌}
use mathlib.Core.Path.{◌≡◌, sym, ap, ◌∙◌}
use mathlib.Core.Option.{some}
use native.Mathlib.Nat.{add-zero, sub-zero, add_assoc}
use native.Mathlib.Omega.{arith}
use lib.ListN.{drop}
use Rattle.text_rules.specs.Escapes.{hex}
use Rattle.tokens.proofs.QuotedSteps.{hex_more, hex-other, hex_short, hex_grows, hex-fits}
use Rattle.tokens.proofs.quoted.hex_at.Goals as goal

pub loop-i-init : goal.loop-i-init
loop-i-init c = (omega arith, omega arith, omega arith, rw (add-zero, sub-zero))

pub returns-then-text-at : goal.returns-then-text-at
returns-then-text-at c =
    let l = c.loop-i in
    let a = c.args in
    let e : a.w - l.i ≡ suc (a.w - (l.i + 1)) = omega arith in
    record { told = l.invariant.3 ∙ ap (λ (n : ℕ). hex n l.v (drop (a.at + l.i) a.text.now)) e ∙ hex_short _ l.v a.text.now (a.at + l.i) (omega arith) }

pub returns-in_err-d : goal.returns-in_err-d
returns-in_err-d c =
    let l = c.loop-i in
    let a = c.args in
    let e : a.w - l.i ≡ suc (a.w - (l.i + 1)) = omega arith in
    rw c.from_residual.ensures record { told = l.invariant.3 ∙ ap (λ (n : ℕ). hex n l.v (drop (a.at + l.i) a.text.now)) e ∙ hex-other _ l.v a.text.now (a.at + l.i) (omega arith) (sym c.in_err-d.ensures.digit) }

pub overflow_mul-v : goal.overflow_mul-v
overflow_mul-v c =
    let l = c.loop-i in
    omega (arith, hex-fits _ _ c.args.w (hex_grows l.v 0 l.i l.invariant.2 (omega arith)) (omega arith) (omega arith))

pub overflow_cast-v : goal.overflow_cast-v
overflow_cast-v c = omega arith

pub overflow_add-v : goal.overflow_add-v
overflow_add-v c =
    let l = c.loop-i in
    omega (arith, hex-fits _ _ c.args.w (hex_grows l.v c.in_ok-d.d l.i l.invariant.2 c.in_ok-d.ensures.below) (omega arith) (omega arith))

pub loop-i-preserved : goal.loop-i-preserved
loop-i-preserved c =
    let l = c.loop-i in
    let a = c.args in
    let e : a.w - l.i ≡ suc (a.w - (l.i + 1)) = omega arith in
    (omega arith, omega arith, hex_grows l.v c.in_ok-d.d l.i l.invariant.2 c.in_ok-d.ensures.below, l.invariant.3 ∙ ap (λ (n : ℕ). hex n l.v (drop (a.at + l.i) a.text.now)) e ∙ hex_more _ l.v _ a.text.now (a.at + l.i) (omega arith) (sym c.in_ok-d.ensures.digit) ∙ ap (λ (n : ℕ). hex (a.w - (l.i + 1)) (l.v * 16 + c.in_ok-d.d) (drop n a.text.now)) (add_assoc a.at l.i 1))

pub returns : goal.returns
unfolding hex
returns c =
    let l = c.loop-i in
    let a = c.args in
    let e : l.i ≡ a.w = omega arith in
    let z : a.w - l.i ≡ 0 = omega arith in
    record { told = (l.invariant.3 ∙ ap (λ (n : ℕ). hex n l.v (drop (a.at + l.i) a.text.now)) z ∙ ap (λ (n : ℕ). some (l.v, drop (a.at + n) a.text.now)) e, omega arith, rw e at l.invariant.2) }
