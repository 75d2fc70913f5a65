-- `characters::valid_from` meets its contract. Assumes nothing.
use mathlib.Core.Path.{sym, ◌∙◌}
use Rattle.characters.proofs.AsciiWords.{last_word}
use Rattle.characters.proofs.valid_from.Goals as goal

pub returns-then-word_at-eq0 : goal.returns-then-word_at-eq0
returns-then-word_at-eq0 c =
    let i = c.ascii_words-i in
    let w = c.word_at in
    sym (i.ensures.1 ∙ last_word _ i.result w.result c.requires.1 c.if-n-i.true w.type_inv w.ensures c.if-word_at-eq0.true)
