-- `words::token_is_identifier` meets its contract. Assumes nothing.
use mathlib.Core.Path.{sym, ◌∙◌}
use native.Mathlib.Omega.{arith}
use borrow.Author.Tests.{eqb-true, eqb-false}
use Rattle.text_rules.proofs.WordsLaws.{identifier_none, identifier_other, identifier_here}
use Rattle.text_rules.proofs.words.token_is_identifier.Goals as goal
use Rattle.text_rules.proofs.words.token_is_identifier.Goals.{then-not-is_empty, else-not-is_empty}

pub returns-then-is_start : goal.returns-then-is_start
returns-then-is_start c =
    elim c.if-not-is_empty.branch [
      | then-not-is_empty w ↦ identifier_here c.args.w.now c.word_end.result (omega arith) (sym w.is_start.ensures ∙ sym w.value-is ∙ c.if-is_start.true) c.word_end.ensures
      | else-not-is_empty w ↦ absurd (cc)
    ]

pub returns-else-is_start : goal.returns-else-is_start
returns-else-is_start c =
    c.if-is_start.false
    ∙ sym (elim c.if-not-is_empty.branch [
      | then-not-is_empty w ↦ identifier_other c.args.w.now (omega (arith, eqb-false _ _ (sym c.is_empty.ensures ∙ w.if-not-is_empty.true))) (sym w.is_start.ensures ∙ sym w.value-is ∙ c.if-is_start.false)
      | else-not-is_empty w ↦ identifier_none c.args.w.now (eqb-true _ _ (sym c.is_empty.ensures ∙ w.if-not-is_empty.false))
    ])
