-- `words::symbol_id` meets its contract. Assumes nothing.
use mathlib.Core.Path.{sym, ◌∙◌}
use native.Mathlib.Omega.{arith}
use Rattle.text_rules.proofs.WordsLaws.{id_padded, id_other, id_short}
use Rattle.text_rules.proofs.words.symbol_id.Goals as goal
use Rattle.text_rules.proofs.words.symbol_id.Goals.{else-w-ne2-via-then-w-ne2+else-w-eq48, else-w-ne2-via-else-w-ne2}

pub returns-then-w-eq48 : goal.returns-then-w-eq48
returns-then-w-eq48 c = sym (id_padded c.args.w.now (omega arith) c.if-w-eq48.true)

pub returns : goal.returns
returns c =
    c.bounded_number.ensures
    ∙ sym (elim c.else-w-ne2.branch [
      | else-w-ne2-via-then-w-ne2+else-w-eq48 w ↦ id_other c.args.w.now c.requires w.if-w-eq48.false
      | else-w-ne2-via-else-w-ne2 w ↦ id_short c.args.w.now w.if-w-ne2.false
    ])
