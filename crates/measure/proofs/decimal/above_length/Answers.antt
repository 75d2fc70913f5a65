-- `measure::decimal::above_length` meets its contract. Assumes nothing.
use Prim.Native.Nat.{◌-◌}
use mathlib.Core.Path.{◌≡◌, ap, ◌∙◌}
use mathlib.Core.List.{◌∷◌, []}
use native.Mathlib.Omega.{arith}
use lib.IntN.{pos}
use lib.ListN.{length-append}
use mir.Syntax.{w64}
use mir.Val.{SFits}
use Rattle.output.specs.Logic.{byte}
use Rattle.text_rules.specs.Digits.{digits}
use Rattle.text_rules.proofs.DigitLaws.{length_digits}
use Rattle.numbers.proofs.Signed.{read_back}
use Rattle.numbers.proofs.DecimalLaws.{form_long, form-point, form-above}
use Rattle.measure.proofs.decimal.above_length.Goals as goal

pub returns-then-w-gt6 : goal.returns-then-w-gt6
returns-then-w-gt6 c =
    let x = c.args in
    let e : c.plus.result ≡ pos (x.w - 1) = c.plus.ensures ∙ ap pos c.far.ensures in
    let f : SFits w64 (pos (x.w - 1)) = record { sfits = omega (arith, c.requires.1) } in
    rw (form_long (digits x.n) x.w x.e c.if-e-eq0.true c.if-w-gt6.true) (rw (read_back w64 c.plus.result (pos (x.w - 1)) e f) at c.scientific_length.ensures)

pub returns-then-e-eq0 : goal.returns-then-e-eq0
returns-then-e-eq0 c =
    let x = c.args in
    rw (form-point (digits x.n) x.w x.e c.if-e-eq0.true c.if-w-gt6.false)
    (omega (arith, c.requires.0, length-append (digits x.n) (byte "." ∷ []), length_digits x.n), omega (arith, c.requires.1))

pub returns : goal.returns
returns c =
    let x = c.args in
    let d = c.digit_count.ensures in
    rw (form-above (digits x.n) x.w x.e c.if-e-eq0.false)
    (omega (arith, c.requires.0, d.0, length-append (digits x.n) (byte "d" ∷ digits x.e), length_digits x.n, length_digits x.e), omega (arith, c.requires.1, d.2))
