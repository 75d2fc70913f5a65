-- `numbers::numeral::decimal_of` meets its contract. Assumes nothing.
use mathlib.Core.Path.{sym, ap, ◌∙◌}
use mathlib.Core.Option.{some}
use native.Mathlib.Omega.{arith}
use mir.Syntax.{w32}
use mir.ValLaws.{to_z-of_z}
use Rattle.numbers.specs.Numeral.{shifted}
use Rattle.numbers.proofs.Signed.{i32_some}
use Rattle.numbers.proofs.NumeralLaws.{decimal_some, decimal_none}
use Rattle.text_rules.proofs.ReadingLaws.{refused}
use Rattle.numbers.proofs.numeral.decimal_of.Goals as goal

pub returns-in_err-x : goal.returns-in_err-x
returns-in_err-x c = rw c.from_residual.ensures (λ t h. refused (decimal_none _ _ _ _ _ (omega arith) (sym c.in_err-x.ensures)))

pub returns : goal.returns
unfolding shifted
returns c =
    let s = c.in_ok-x.ensures in
    let f = i32_some _ _ (sym s) in
    λ t h. record { is = decimal_some _ _ _ _ _ _ (omega arith) (sym s ∙ ap some (sym (to_z-of_z w32 _ f))); place = (omega arith, h) }
