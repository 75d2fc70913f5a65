-- `words::digits_end` meets its contract. Assumes nothing.
use lib.ListN.{length}
use mathlib.Core.Path.{◌≡◌, refl, sym, ◌∙◌}
use native.Mathlib.Omega.{arith}
use Rattle.text_rules.proofs.WordsLaws.{passed-stop, passed-end, past_digit}
use Rattle.text_rules.proofs.words.digits_end.Goals as goal

pub returns-then-not-is_digit : goal.returns-then-not-is_digit
returns-then-not-is_digit c =
    let l = c.loop-i in
    record { ahead = omega arith; inside = omega arith; is = passed-stop c.args.text.now l.i (omega arith) (sym c.is_digit.ensures ∙ c.if-not-is_digit.true) ∙ l.invariant.2 }

pub loop-i-preserved : goal.loop-i-preserved
loop-i-preserved c =
    let l = c.loop-i in
    (omega arith, omega arith, sym (past_digit c.args.text.now l.i (omega arith) (sym c.is_digit.ensures ∙ c.if-not-is_digit.false)) ∙ l.invariant.2)

pub returns : goal.returns
returns c =
    let l = c.loop-i in
    let e : l.i ≡ length c.args.text.now = omega arith in
    record { ahead = c.requires; inside = omega arith; is = passed-end c.args.text.now _ refl ∙ rw e at l.invariant.2 }
