-- `value_writer::write_blob` meets its contract. Assumes nothing.
use native.Mathlib.Omega.{arith}
use Rattle.tape.proofs.CodeFacts.{part_text}
use Rattle.writer.proofs.value_writer.write_blob.Goals as goal

pub returns : goal.returns
returns c =
    let a = c.args in
    let h = c.requires.n_bound in
    rw (part_text a.tape.now a.at a.end a.n (omega arith)) c.format_blob_at.ensures
