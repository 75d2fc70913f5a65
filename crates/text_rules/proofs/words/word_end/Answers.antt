-- `words::word_end` meets its contract. What is left to show: the word from `i` on ends where the word from `from` on does. Assumes nothing.
use lib.ListN.{length}
use mathlib.Core.Path.{◌≡◌, refl, sym, ◌∙◌}
use native.Mathlib.Omega.{arith}
use Rattle.text_rules.proofs.WordsLaws.{spanned_stop, spanned_end, spanned_more}
use Rattle.text_rules.proofs.words.word_end.Goals as goal

pub returns-then-not-is_part : goal.returns-then-not-is_part
returns-then-not-is_part c =
    let l = c.loop-i in
    l.invariant.2 _ (spanned_stop c.args.text.now l.i (omega arith) (sym c.is_part.ensures ∙ c.if-not-is_part.true))

pub loop-i-preserved : goal.loop-i-preserved
loop-i-preserved c =
    let l = c.loop-i in
    (omega arith, omega arith, λ r h. l.invariant.2 r (spanned_more c.args.text.now l.i r (omega arith) (sym c.is_part.ensures ∙ c.if-not-is_part.false) h))

pub returns : goal.returns
returns c =
    let l = c.loop-i in
    let e : l.i ≡ length c.args.text.now = omega arith in
    (rw e at l.invariant.2) _ (spanned_end c.args.text.now _ refl)
