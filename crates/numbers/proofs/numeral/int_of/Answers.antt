-- `numbers::numeral::int_of` meets its contract. Assumes nothing.
use Prim.Native.Nat.{ℕ, suc, ◌-◌}
use mathlib.Core.Path.{◌≡◌, sym, ap, ◌∙◌}
use mathlib.Core.Bool.{true}
use mathlib.Core.Option.{some}
use native.Mathlib.Omega.{arith}
use lib.IntN.{ℤ, pos}
use lib.ListN.{drop}
use mir.Syntax.{w64}
use mir.Val.{to_z, of_z}
use mir.ValLaws.{to_z-of_z}
use Rattle.numbers.specs.Numeral.{Numeral, ranged_int}
use Rattle.numbers.proofs.Signed.{told, untold, turned}
use Rattle.numbers.proofs.NumeralLaws.{int_some, int_some-below, int_none, int_none-below}
use Rattle.text_rules.proofs.ReadingLaws.{refused}
use Rattle.numbers.proofs.numeral.int_of.Goals as goal

pub returns-in_err-checked_sub : goal.returns-in_err-checked_sub
unfolding ranged_int
returns-in_err-checked_sub c =
    let z : c.args.m ≡ 0 = omega (arith, c.in_err-checked_sub.ensures) in
    rw c.from_residual.ensures (λ t h. refused (rw (c.if-negative.true, z)))

pub returns-in_err-ok : goal.returns-in_err-ok
returns-in_err-ok c =
    let s = c.in_ok-checked_sub.ensures in
    let u = untold w64 _ _ c.try_from.ensures c.in_err-ok.ensures.value in
    rw c.from_residual-in_err-ok.ensures (λ t h. refused (rw c.if-negative.true (int_none-below _ _ (omega (arith, s, u)))))

pub returns-in_ok-ok : goal.returns-in_ok-ok
returns-in_ok-ok c =
    let x = c.args in
    let s = c.in_ok-checked_sub.ensures in
    let k = told w64 _ _ _ c.try_from.ensures c.in_ok-ok.ensures.value in
    let q : x.m ≡ suc c.in_ok-checked_sub.field-0 = omega (arith, s) in
    let b = ap (λ (y : ℤ). to_z w64 (18446744073709551615 - of_z w64 y)) k.1 ∙ turned c.in_ok-checked_sub.field-0 k.0.sfits in
    λ t h. record {
      is = rw c.if-negative.true (ap (λ (k : ℕ). ranged_int true k (drop x.end t)) q ∙ int_some-below _ (drop x.end t) k.0.sfits ∙ ap (λ (y : ℤ). some (Numeral.int y, drop x.end t)) (sym b));
      place = (omega arith, h);
    }

pub returns-in_err-z : goal.returns-in_err-z
returns-in_err-z c =
    let u = untold w64 _ _ c.try_from-else-negative.ensures c.in_err-z.ensures.value in
    rw c.from_residual-in_err-z.ensures (λ t h. refused (rw c.if-negative.false (int_none _ _ u)))

pub returns-in_ok-z : goal.returns-in_ok-z
returns-in_ok-z c =
    let x = c.args in
    let k = told w64 _ _ _ c.try_from-else-negative.ensures c.in_ok-z.ensures.value in
    let b = ap (λ (y : ℤ). to_z w64 (of_z w64 y)) k.1 ∙ to_z-of_z w64 (pos x.m) k.0 in
    λ t h. record {
      is = rw c.if-negative.false (int_some x.m (drop x.end t) k.0.sfits ∙ ap (λ (y : ℤ). some (Numeral.int y, drop x.end t)) (sym b));
      place = (omega arith, h);
    }
