-- `words::word_stands` meets its contract. What is left of the word is looked for in what is left of the text. Assumes nothing.
use native.Mathlib.Omega.{arith}
use native.Mathlib.Nat.{add-zero}
use Rattle.text_rules.proofs.WordsLaws.{stands_short, stands_other, stands_all, strip_more}
use Rattle.text_rules.proofs.words.word_stands.Goals as goal

pub returns-then-text-at : goal.returns-then-text-at
returns-then-text-at c =
    let x = c.args in
    stands_short x.text.now x.word.now x.at (omega arith) c.if-text-at.true

pub loop-i-init : goal.loop-i-init
loop-i-init c = (omega arith, omega arith, rw (add-zero _))

pub returns-then-text-at-2 : goal.returns-then-text-at-2
returns-then-text-at-2 c =
    let x = c.args in
    let l = c.loop-i in
    stands_other x.text.now x.word.now x.at l.i l.invariant.2 (omega arith) (omega arith) (omega arith) c.if-text-at-2.true

pub loop-i-preserved : goal.loop-i-preserved
loop-i-preserved c =
    let x = c.args in
    let l = c.loop-i in
    (omega arith, omega arith, strip_more x.text.now x.word.now x.at l.i l.invariant.2 (omega arith) (omega arith) c.if-text-at-2.false)

pub returns : goal.returns
returns c =
    let x = c.args in
    let l = c.loop-i in
    stands_all x.text.now x.word.now x.at l.i l.invariant.2 (omega arith) (omega arith)
