-- `value_writer::write_string` meets its contract. Assumes nothing.
use Rattle.writer.proofs.Texts.{text_at}
use Rattle.writer.proofs.value_writer.write_string.Goals as goal

pub returns : goal.returns
returns c =
    let a = c.args in
    rw (text_at a.tape.now a.at a.end a.n c.requires.n_bound) c.format_string.ensures
