-- `digits::digits_at` meets its contract. Assumes nothing.
use native.Mathlib.Omega.{arith}
use Rattle.std.proofs.Common.{◌≡◌, ℕ, ◌+◌, ◌-◌, ◌*◌, ◌^◌, ◌≤◌, ◌<◌, true, length, get_or, Some, None, sym, subst, ◌∙◌}
use Rattle.text_rules.specs.Digits.{is_digit}
use Rattle.text_rules.specs.DigitSteps.{RunJoined}
use Rattle.text_rules.proofs.DigitLaws.{digit_range}
use Rattle.text_rules.proofs.DigitReading.{ran_stop, ran_more, ran_over, no_digit_lem, no_byte}
use Rattle.text_rules.proofs.digits.digits_at.Goals as goal

pub returns-then-not-is_digit : goal.returns-then-not-is_digit
returns-then-not-is_digit c =
    let l = c.loop-i in
    let t = c.args.text.now in
    l.invariant.1 (Some (l.n, l.i)) (ran_stop t l.i l.n (no_digit_lem t l.i c.loop-i-test.true (sym c.is_digit.ensures ∙ c.if-not-is_digit.true)) (omega arith) l.invariant.0)

pub returns-in_err-checked_mul : goal.returns-in_err-checked_mul
returns-in_err-checked_mul c =
    let l = c.loop-i in
    let d : is_digit (get_or c.args.text.now l.i 0) ≡ true = sym c.is_digit.ensures ∙ c.if-not-is_digit.false in
    rw c.from_residual.ensures (l.invariant.1 None (ran_over c.args.text.now l.i l.n c.loop-i-test.true d (omega (arith, c.in_err-checked_mul.ensures))))

pub overflow_sub-b : goal.overflow_sub-b
overflow_sub-b c = (digit_range _ (sym c.is_digit.ensures ∙ c.if-not-is_digit.false)).0

pub returns-in_err-n : goal.returns-in_err-n
returns-in_err-n c =
    let l = c.loop-i in
    let d : is_digit (get_or c.args.text.now l.i 0) ≡ true = sym c.is_digit.ensures ∙ c.if-not-is_digit.false in
    rw c.from_residual-in_err-n.ensures (l.invariant.1 None (ran_over c.args.text.now l.i l.n c.loop-i-test.true d (omega (arith, c.in_err-n.ensures, c.in_ok-checked_mul.ensures))))

pub loop-i-preserved : goal.loop-i-preserved
loop-i-preserved c =
    let l = c.loop-i in
    let d : is_digit (get_or c.args.text.now l.i 0) ≡ true = sym c.is_digit.ensures ∙ c.if-not-is_digit.false in
    let m = c.in_ok-checked_mul.ensures in
    let n = c.in_ok-n.ensures in
    (omega (arith, n), λ r h. l.invariant.1 r (ran_more c.args.text.now l.i l.n r c.loop-i-test.true d (rw (n.1, m.1) at h)))

pub returns : goal.returns
returns c =
    let l = c.loop-i in
    let t = c.args.text.now in
    let e : l.i ≡ length t = omega arith in
    l.invariant.1 (Some (l.n, length t)) (subst (λ k. RunJoined t l.i l.n (Some (l.n, k))) e (ran_stop t l.i l.n (no_byte t l.i e) (omega arith) l.invariant.0))
