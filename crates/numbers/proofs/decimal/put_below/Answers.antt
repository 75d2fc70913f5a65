-- `numbers::decimal::put_below` meets its contract: each form has its law in DecimalLaws. Assumes nothing.
use Prim.Native.Nat.{◌-◌}
use mathlib.Core.Path.{◌≡◌}
use native.Mathlib.Omega.{arith}
use lib.IntN.{negsuc, ◌-ℤ◌}
use mir.Syntax.{w64}
use mir.Val.{to_z, of_z}
use Rattle.std.proofs.lemmas.Int.{ints}
use Rattle.text_rules.specs.Digits.{digits}
use Rattle.numbers.proofs.DecimalLaws.{form-inside, form-zeros, form_small}
use Rattle.numbers.proofs.decimal.put_below.Goals as goal

pub returns-then-k-l : goal.returns-then-k-l
returns-then-k-l c =
    let x = c.args in
    rw (form-inside (digits x.n) x.w x.k c.if-k-l.true) c.put_pointed.ensures

pub returns-then-k-l-2 : goal.returns-then-k-l-2
returns-then-k-l-2 c =
    let x = c.args in
    rw (form-zeros (digits x.n) x.w x.k c.if-k-l.false c.if-k-l-2.true) c.put_small.ensures

pub returns : goal.returns
returns c =
    let x = c.args in
    let z : to_z w64 (of_z w64 (negsuc 0 -ℤ to_z w64 (x.k - x.w))) ≡ negsuc (x.k - x.w) = omega (arith, ints, c.requires) in
    rw (form_small (digits x.n) x.w x.k c.if-k-l.false c.if-k-l-2.false) (rw z at c.write_scientific.ensures)
