-- `value_writer::write_note` meets its contract. Assumes nothing.
use native.Mathlib.Omega.{arith}
use Rattle.output.proofs.Laws.{wrote_then}
use Rattle.tape.proofs.CodeFacts.{part_text}
use Rattle.writer.proofs.value_writer.write_note.Goals as goal

pub returns-then-quoted : goal.returns-then-quoted
returns-then-quoted c =
    let a = c.args in
    let h = c.requires.n_bound in
    rw (c.if-quoted.true, part_text a.tape.now a.at a.end a.n (omega arith)) (wrote_then c.format_quoted_at-p.ensures.always c.write_colons.ensures)

pub returns : goal.returns
returns c =
    let a = c.args in
    let h = c.requires.n_bound in
    rw (c.if-quoted.false, part_text a.tape.now a.at a.end a.n (omega arith)) (wrote_then c.format_token_at-p.ensures c.write_colons-2.ensures)
