-- `numbers::decimal::put_above` meets its contract: each form has its law in DecimalLaws. Assumes nothing.
use Prim.Native.Nat.{◌-◌}
use native.Mathlib.Omega.{arith}
use mir.Syntax.{w64}
use mir.ValLaws.{to_z_pos}
use Rattle.output.proofs.Laws.{wrote_then}
use Rattle.text_rules.specs.Digits.{digits}
use Rattle.numbers.proofs.DecimalLaws.{form_long, form-point, form-above}
use Rattle.numbers.proofs.decimal.put_above.Goals as goal

pub returns-then-w-gt6 : goal.returns-then-w-gt6
returns-then-w-gt6 c =
    let x = c.args in
    rw (form_long (digits x.n) x.w x.e c.if-e-eq0.true c.if-w-gt6.true) (rw (to_z_pos w64 (x.w - 1) (omega (arith, c.requires))) at c.write_scientific.ensures)

pub returns-then-e-eq0 : goal.returns-then-e-eq0
returns-then-e-eq0 c =
    let x = c.args in
    rw (form-point (digits x.n) x.w x.e c.if-e-eq0.true c.if-w-gt6.false) (wrote_then c.put_digits-a.ensures c.put.ensures)

pub returns : goal.returns
returns c =
    let x = c.args in
    rw (form-above (digits x.n) x.w x.e c.if-e-eq0.false) (wrote_then c.put_digits-a-2.ensures (wrote_then c.put-b.ensures c.put_digits.ensures))
