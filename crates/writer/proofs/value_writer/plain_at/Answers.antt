-- `value_writer::plain_at` meets its contract. Assumes nothing.
use mathlib.Core.Bool.{false}
use Rattle.writer.proofs.Texts.{plain_word}
use Rattle.writer.proofs.value_writer.plain_at.Goals as goal

pub returns-then-n-le8 : goal.returns-then-n-le8
returns-then-n-le8 c e =
    let a = c.args in
    let h = c.if-n-le8.true in
    rw h.0 (plain_word a.tape.now a.from a.n _ c.word_at.ensures false h.2 c.requires (c.is_plain.ensures e))
