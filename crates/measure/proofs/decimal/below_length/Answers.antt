-- `measure::decimal::below_length` meets its contract. Assumes nothing.
use Prim.Native.Nat.{ℕ, ◌-◌, ◌+◌, ◌≤◌, ◌<◌}
use mathlib.Core.Path.{◌≡◌, ap, ◌∙◌}
use native.Mathlib.Omega.{arith}
use lib.IntN.{negsuc}
use mir.Syntax.{w64}
use mir.Val.{SFits}
use Rattle.text_rules.specs.Digits.{digits}
use Rattle.numbers.proofs.Signed.{read_back}
use Rattle.numbers.proofs.DecimalLaws.{form-inside, form-zeros, form_small}
use Rattle.numbers.proofs.Pointed.{length-pointed}
use Rattle.measure.proofs.NumberLengths.{length-zeros}
use Rattle.measure.proofs.decimal.below_length.Goals as goal

pub returns-then-k-l : goal.returns-then-k-l
returns-then-k-l c =
    let x = c.args in
    let q = c.requires in
    let h : x.k < x.w = omega (arith, c.if-k-l.true, c.far-l.ensures) in
    rw (form-inside (digits x.n) x.w x.k h) (omega (arith, length-pointed x.n x.w (x.w - x.k) q.0 (omega arith)), omega (arith, q.1))

pub returns-then-k-l-2 : goal.returns-then-k-l-2
returns-then-k-l-2 c =
    let x = c.args in
    let q = c.requires in
    let l = c.far-l.ensures in
    let h : x.w ≤ x.k = omega (arith, c.if-k-l.false) in
    let g : x.k ≤ x.w + 5 = omega (arith, c.if-k-l-2.true) in
    rw (form-zeros (digits x.n) x.w x.k h g)
    (omega (arith, length-zeros x.n x.w x.k q.0 h), omega (arith, q.1))

pub returns : goal.returns
returns c =
    let x = c.args in
    let l = c.far-l.ensures in
    let h : x.w ≤ x.k = omega (arith, c.if-k-l.false) in
    let g : x.w + 5 < x.k = omega (arith, c.if-k-l-2.false) in
    let e : c.minus.result ≡ negsuc (x.k - x.w) = c.minus.ensures ∙ ap (λ (n : ℕ). negsuc (x.k - n)) l in
    let f : SFits w64 (negsuc (x.k - x.w)) = record { sfits = omega (arith, c.requires.4, c.requires.2) } in
    rw (form_small (digits x.n) x.w x.k h g) (rw (read_back w64 c.minus.result (negsuc (x.k - x.w)) e f) at c.scientific_length.ensures)
