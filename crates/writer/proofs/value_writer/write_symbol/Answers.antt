-- `value_writer::write_symbol` meets its contract. Assumes nothing.
use mathlib.Core.Path.{refl}
use native.Mathlib.Omega.{arith}
use Prim.Native.Nat.{◌+◌}
use Rattle.writer.specs.Text.{sym_text, scalar_text}
use Rattle.writer.proofs.Texts.{plain_text}
use Rattle.writer.proofs.Leaves.{symbol_leaf}
use Rattle.tape.proofs.Parts.{trailed}
use Rattle.writer.proofs.value_writer.write_symbol.Goals as goal

pub u32_at-n-requires : goal.u32_at-n-requires
u32_at-n-requires c =
    let a = c.args in
    let r = (symbol_leaf a.tape.now a.at a.end c.requires.at_le_end (trailed c.requires.end_in_bounds) c.requires.nonzero _ refl c.requires.at_value).room in
    let k = c.requires.end_in_bounds in
    omega arith

pub plain_at-requires : goal.plain_at-requires
plain_at-requires c =
    let a = c.args in
    let r = (symbol_leaf a.tape.now a.at a.end c.requires.at_le_end (trailed c.requires.end_in_bounds) c.requires.nonzero _ c.u32_at-n.ensures.0 c.requires.at_value).room in
    let k = c.requires.end_in_bounds in
    omega arith

pub word_at-requires : goal.word_at-requires
word_at-requires c = (c.plain_at.ensures c.if-plain_at.true).room

pub returns-then-plain_at : goal.returns-then-plain_at
unfolding scalar_text sym_text
returns-then-plain_at c =
    let a = c.args in
    let q = symbol_leaf a.tape.now a.at a.end c.requires.at_le_end (trailed c.requires.end_in_bounds) c.requires.nonzero _ c.u32_at-n.ensures.0 c.requires.at_value in
    let p = plain_text a.tape.now (a.at + 5) _ _ c.word_at.ensures a.quoted a.at a.end refl q.room (c.plain_at.ensures c.if-plain_at.true) in
    record { text = rw (q.read, p) c.put_le-p.ensures; place = rw q.read (omega arith) }

pub write_symbol_text-p-requires : goal.write_symbol_text-p-requires
write_symbol_text-p-requires c =
    let a = c.args in
    let q = symbol_leaf a.tape.now a.at a.end c.requires.at_le_end (trailed c.requires.end_in_bounds) c.requires.nonzero _ c.u32_at-n.ensures.0 c.requires.at_value in
    record { n_bound = q.room; end_in_bounds = trailed c.requires.end_in_bounds }

pub returns : goal.returns
unfolding scalar_text sym_text
returns c =
    let a = c.args in
    let q = symbol_leaf a.tape.now a.at a.end c.requires.at_le_end (trailed c.requires.end_in_bounds) c.requires.nonzero _ c.u32_at-n.ensures.0 c.requires.at_value in
    record { text = rw q.read c.write_symbol_text-p.ensures; place = rw q.read (omega arith) }
