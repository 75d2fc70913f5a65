-- `parts::sym_length` meets its contract. Assumes nothing.
use mathlib.Core.Path.{sym, ◌∙◌}
use native.Mathlib.Omega.{arith}
use Rattle.tape.proofs.Parts.{trailed}
use Rattle.measure.specs.Steps.{quoting}
use Rattle.measure.proofs.SymbolLengths.{quotes_most}
use Rattle.measure.proofs.PartLaws.{sym-room, sym_text_length, sym_id_length}
use Rattle.measure.proofs.parts.sym_length.Goals as goal

pub overflow_sub-n : goal.overflow_sub-n
overflow_sub-n c = (sym_text_length c.args.tape.now c.args.at c.args.end c.requires.at_le_end (trailed c.requires.end_in_bounds) c.args.size c.requires.size_value.0 c.requires.size_value.1 (quoting c.args.quotes) c.if-tape-at-lt7.true).0

pub plain_at-requires : goal.plain_at-requires
plain_at-requires c =
    let t = (sym_text_length c.args.tape.now c.args.at c.args.end c.requires.at_le_end (trailed c.requires.end_in_bounds) c.args.size c.requires.size_value.0 c.requires.size_value.1 (quoting c.args.quotes) c.if-tape-at-lt7.true).0 in
    let h = c.requires.tape_len_bound in
    let r = sym-room c.args.tape.now c.args.at c.args.end c.requires.at_le_end (trailed c.requires.end_in_bounds) c.args.size c.requires.size_value.0 c.requires.size_value.1 in
    let e = c.requires.end_in_bounds in
    omega arith

pub overflow_add-result : goal.overflow_add-result
overflow_add-result c =
    let h = c.requires.tape_len_bound in
    let r = sym-room c.args.tape.now c.args.at c.args.end c.requires.at_le_end (trailed c.requires.end_in_bounds) c.args.size c.requires.size_value.0 c.requires.size_value.1 in
    let e = c.requires.end_in_bounds in
    record { fits = omega (arith, quotes_most (quoting c.args.quotes)) }

pub returns-then-plain_at : goal.returns-then-plain_at
returns-then-plain_at c =
    let p = c.plain_at.ensures c.if-plain_at.true (quoting c.args.quotes) in
    let t = (sym_text_length c.args.tape.now c.args.at c.args.end c.requires.at_le_end (trailed c.requires.end_in_bounds) c.args.size c.requires.size_value.0 c.requires.size_value.1 (quoting c.args.quotes) c.if-tape-at-lt7.true).1 in
    let m = c.requires.quotes_value in
    omega arith

pub symbol_length-requires : goal.symbol_length-requires
symbol_length-requires c =
    let t = (sym_text_length c.args.tape.now c.args.at c.args.end c.requires.at_le_end (trailed c.requires.end_in_bounds) c.args.size c.requires.size_value.0 c.requires.size_value.1 (quoting c.args.quotes) c.if-tape-at-lt7.true).0 in
    let h = c.requires.tape_len_bound in
    let r = sym-room c.args.tape.now c.args.at c.args.end c.requires.at_le_end (trailed c.requires.end_in_bounds) c.args.size c.requires.size_value.0 c.requires.size_value.1 in
    let e = c.requires.end_in_bounds in
    record { n_in_bounds = omega arith; n_bound = omega arith; quotes_value = c.requires.quotes_value }

pub returns-then-tape-at-lt7 : goal.returns-then-tape-at-lt7
returns-then-tape-at-lt7 c = c.symbol_length.ensures ∙ sym (sym_text_length c.args.tape.now c.args.at c.args.end c.requires.at_le_end (trailed c.requires.end_in_bounds) c.args.size c.requires.size_value.0 c.requires.size_value.1 (quoting c.args.quotes) c.if-tape-at-lt7.true).1

pub returns : goal.returns
returns c =
    let a = c.args in
    c.symbol_id_length.ensures
    ∙ sym (sym_id_length a.tape.now a.at a.end c.requires.at_le_end (trailed c.requires.end_in_bounds) a.size c.requires.size_value.0 c.requires.size_value.1 (quoting a.quotes) _ c.u32_at.ensures.0 c.if-tape-at-lt7.false).1
