-- `digits::lead_store` meets its contract. Assumes nothing.
use mathlib.Core.Path.{◌∙◌, ap}
use Prim.Native.Nat.{ℕ, ◌+◌}
use native.Mathlib.Omega.{arith}
use Rattle.output.specs.Wrote.{le_bytes}
use Rattle.text_rules.proofs.DigitLaws.{count-some}
use Rattle.text_rules.proofs.DigitWords.{zeros, word_of_lem, ahead_of}
use Rattle.text_rules.proofs.digits.lead_store.Goals as goal

pub overflow_mul-k : goal.overflow_mul-k
overflow_mul-k c =
    let x = c.args.x in
    let z = c.zeros8-k.ensures.of x (omega arith) c.word8-d.ensures.0 in
    omega arith

pub overflow_shr-d : goal.overflow_shr-d
overflow_shr-d c =
    let x = c.args.x in
    let z = c.zeros8-k.ensures.of x (omega arith) c.word8-d.ensures.0 in
    omega (arith, count-some 19 x)

pub overflow_sub-result : goal.overflow_sub-result
overflow_sub-result c =
    let x = c.args.x in
    let z = c.zeros8-k.ensures.of x (omega arith) c.word8-d.ensures.0 in
    omega arith

pub returns : goal.returns
returns c =
    let x = c.args.x in
    let z = c.zeros8-k.ensures.of x (omega arith) c.word8-d.ensures.0 in
    let d = c.word8-d in
    let e = ap (λ (w : ℕ). le_bytes 8 (w + zeros)) d.ensures.0 ∙ word_of_lem x (omega arith) in
    ahead_of c.zeros8-k.result (d.result + zeros) x z e c.store.ensures
