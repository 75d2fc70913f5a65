-- `value_writer::write_name` meets its contract. Assumes nothing.
use native.Mathlib.Omega.{arith}
use Rattle.output.proofs.Laws.{wrote_then}
use Rattle.writer.specs.Text.{sym_text, name_text}
use Rattle.writer.proofs.Leaves.{name_header, id_name}
use Rattle.tape.proofs.Parts.{trailed}
use Rattle.writer.proofs.value_writer.write_name.Goals as goal

pub bounds-tape-at : goal.bounds-tape-at
bounds-tape-at c =
    let a = c.args in
    let h = name_header a.tape.now a.at a.end c.requires.at_le_end (trailed c.requires.end_in_bounds) c.requires.end_value in
    let k = c.requires.end_in_bounds in
    omega arith

pub write_text_name-requires : goal.write_text_name-requires
write_text_name-requires c =
    record { at_le_end = c.requires.at_le_end; end_in_bounds = c.requires.end_in_bounds; end_value = c.requires.end_value; at_bound = c.if-tape-at-lt7.true }

pub returns-then-tape-at-lt7 : goal.returns-then-tape-at-lt7
returns-then-tape-at-lt7 c = c.write_text_name.ensures

pub u32_at-i-requires : goal.u32_at-i-requires
u32_at-i-requires c =
    let a = c.args in
    let h = name_header a.tape.now a.at a.end c.requires.at_le_end (trailed c.requires.end_in_bounds) c.requires.end_value in
    let k = c.requires.end_in_bounds in
    omega arith

pub returns : goal.returns
unfolding name_text sym_text
returns c =
    let a = c.args in
    let q = id_name a.tape.now a.at a.end c.requires.at_le_end (trailed c.requires.end_in_bounds) c.requires.end_value _ c.u32_at-i.ensures.0 c.if-tape-at-lt7.false in
    record { text = rw q.read (wrote_then c.format_symbol_id-p.ensures c.write_colon-q.ensures); place = rw q.read }
