-- `values::null_at` meets its contract. Assumes nothing.
use Rattle.tokens.proofs.TokensLaws.{null-other, null_here}
use Rattle.tokens.proofs.values.null_at.Goals as goal

pub returns-then-not-same_word : goal.returns-then-not-same_word
returns-then-not-same_word c = null-other c.word_end-e.ensures c.same_word.result c.same_word.ensures (c.if-not-same_word.true)

pub returns : goal.returns
returns c =
    null_here c.word_end-e.ensures c.same_word.result c.same_word.ensures (c.if-not-same_word.false) _ c.null_behind.ensures
