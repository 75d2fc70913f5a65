-- `value_writer::write_symbol_text` meets its contract. Assumes nothing.
use native.Mathlib.Omega.{arith}
use Rattle.tape.proofs.CodeFacts.{part_text}
use Rattle.writer.proofs.value_writer.write_symbol_text.Goals as goal

pub returns-then-quoted : goal.returns-then-quoted
returns-then-quoted c =
    let a = c.args in
    let h = c.requires.n_bound in
    rw (c.if-quoted.true, part_text a.tape.now a.at a.end a.n (omega arith)) c.format_quoted_at.ensures.always

pub returns : goal.returns
returns c =
    let a = c.args in
    let h = c.requires.n_bound in
    rw (c.if-quoted.false, part_text a.tape.now a.at a.end a.n (omega arith)) c.format_token_at.ensures
