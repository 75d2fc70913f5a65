-- `words::bounded_number` meets its contract. Assumes nothing.
use mathlib.Core.Path.{sym, ◌∙◌}
use native.Mathlib.Omega.{arith}
use Prim.Native.Nat.{◌+◌}
use lib.ListN.{drop}
use Rattle.text_rules.proofs.WordsLaws.{number_step, number_over, number-end}
use Rattle.text_rules.proofs.words.bounded_number.Goals as goal

pub returns-then-n-gt4294967295 : goal.returns-then-n-gt4294967295
returns-then-n-gt4294967295 c =
    let x = c.args in
    let l = c.loop-i in
    sym (number_over (drop (l.i + 1) x.w.now) (drop x.from x.w.now) _ 0 (sym (number_step x.w.now l.i l.n _ (omega arith) c.saturating_sub.ensures) ∙ l.invariant.3) (omega arith))

pub loop-i-preserved : goal.loop-i-preserved
loop-i-preserved c =
    let l = c.loop-i in
    (omega arith, omega arith, omega arith, sym (number_step c.args.w.now l.i l.n _ (omega arith) (omega arith)) ∙ l.invariant.3)

pub returns : goal.returns
returns c =
    let x = c.args in
    let l = c.loop-i in
    sym (number-end x.w.now (drop x.from x.w.now) l.i l.n 0 (omega arith) l.invariant.3 l.invariant.2)
