-- `quoted::character_at` meets its contract. Assumes nothing.
use native.Mathlib.Omega.{arith}
use Rattle.tokens.proofs.QuotedSteps.{copies_as, character-escape, character-raw}
use Rattle.tokens.proofs.quoted.character_at.Goals as goal

pub returns-then-text-at-eq92 : goal.returns-then-text-at-eq92
returns-then-text-at-eq92 c =
    let a = c.args in
    copies_as _ (omega arith) (character-escape a.text.now a.at c.requires _ c.if-text-at-eq92.true) c.escape_at.ensures

pub returns : goal.returns
returns c =
    let a = c.args in
    copies_as _ (omega arith) (character-raw a.text.now a.at c.requires _ c.if-text-at-eq92.false) c.raw_at.ensures
