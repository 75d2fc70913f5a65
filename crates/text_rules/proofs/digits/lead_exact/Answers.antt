-- `digits::lead_exact` meets its contract. Assumes nothing.
use mathlib.Core.Path.{◌∙◌, ap}
use Prim.Native.Nat.{ℕ, ◌+◌, ◌-◌}
use native.Mathlib.Omega.{arith}
use lib.Seq.{sets}
use Rattle.output.specs.Wrote.{le_bytes}
use Rattle.text_rules.proofs.DigitCode.{led_short}
use Rattle.text_rules.proofs.DigitWords.{zeros, word_of_lem, last_digits}
use Rattle.text_rules.proofs.digits.lead_exact.Goals as goal

pub overflow_sub-c : goal.overflow_sub-c
overflow_sub-c c =
    let x = c.args.x in
    let z = c.zeros8-c.ensures.of x (omega arith) c.word8-d.ensures.0 in
    omega arith

pub returns : goal.returns
returns c =
    let x = c.args.x in
    let z = c.zeros8-c.ensures.of x (omega arith) c.word8-d.ensures.0 in
    let a = c.args in
    let k = 8 - c.zeros8-c.result in
    let d = c.word8-d in
    let e = ap (λ (w : ℕ). le_bytes 8 (w + zeros)) d.ensures.0 ∙ word_of_lem x (omega arith) in
    led_short k (c.store_last.ensures ∙ ap (sets a.buf.now a.p) (last_digits k (d.result + zeros) x (omega arith) e)) (omega arith)
