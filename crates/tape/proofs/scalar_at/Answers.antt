-- `tape::scalar_at` meets its contract: each kind by its own reader. Assumes nothing.
use mathlib.Core.Path.{sym, ◌∙◌}
use native.Mathlib.Omega.{arith}
use Rattle.tape.specs.Bytes.{part}
use Rattle.tape.specs.Tape.{sized_of}
use Rattle.tape.proofs.Parts.{part_length, part-first}
use Rattle.tape.proofs.CodeReading.{text_by, scalar-empty, scalar-null, scalar-bool, scalar_int, scalar-float, scalar_decimal, scalar-timestamp, scalar-symbol, scalar-string, scalar-clob, scalar-blob, scalar-other}
use Rattle.tape.proofs.scalar_at.Goals as goal

pub returns-then-at-end : goal.returns-then-at-end
returns-then-at-end c =
    let a = c.args in
    let n = part_length a.tape.now a.at a.end c.requires.end_in_bounds in
    sym (scalar-empty _ (omega arith))

pub returns-in-0 : goal.returns-in-0
returns-in-0 c = let a = c.args in c.null_at.ensures ∙ sym (scalar-null _ (part-first a.tape.now a.at a.end (omega arith) ∙ c.in-0.is))

pub returns-in-1 : goal.returns-in-1
returns-in-1 c = let a = c.args in c.bool_at.ensures ∙ sym (scalar-bool _ (part-first a.tape.now a.at a.end (omega arith) ∙ c.in-1.is))

pub returns-in-2 : goal.returns-in-2
returns-in-2 c = let a = c.args in c.int_at.ensures ∙ sym (scalar_int _ (part-first a.tape.now a.at a.end (omega arith) ∙ c.in-2.is))

pub returns-in-3 : goal.returns-in-3
returns-in-3 c = let a = c.args in c.float_at.ensures ∙ sym (scalar-float _ (part-first a.tape.now a.at a.end (omega arith) ∙ c.in-3.is))

pub returns-in-4 : goal.returns-in-4
returns-in-4 c = let a = c.args in c.decimal_at.ensures ∙ sym (scalar_decimal _ (part-first a.tape.now a.at a.end (omega arith) ∙ c.in-4.is))

pub returns-in-5 : goal.returns-in-5
returns-in-5 c = let a = c.args in c.timestamp_at.ensures ∙ sym (scalar-timestamp _ (part-first a.tape.now a.at a.end (omega arith) ∙ c.in-5.is))

pub returns-in-6 : goal.returns-in-6
returns-in-6 c =
    let a = c.args in
    let f = part-first a.tape.now a.at a.end (omega arith) in
    c.symbol_at.ensures ∙ sym (scalar-symbol _ (omega arith) (omega arith))

pub returns-in_err-length_at-in-8 : goal.returns-in_err-length_at-in-8
unfolding sized_of
returns-in_err-length_at-in-8 c =
    let a = c.args in
    let l = part a.tape.now a.at a.end in
    let f = part-first a.tape.now a.at a.end (omega arith) in
    rw (scalar-string l (f ∙ c.in-8.is), text_by l _ c.in_err-length_at-in-8.ensures, c.from_residual.ensures)

pub returns-in_ok-length_at-in-8 : goal.returns-in_ok-length_at-in-8
unfolding sized_of
returns-in_ok-length_at-in-8 c =
    let a = c.args in
    let l = part a.tape.now a.at a.end in
    let f = part-first a.tape.now a.at a.end (omega arith) in
    rw (scalar-string l (f ∙ c.in-8.is), text_by l _ c.in_ok-length_at-in-8.ensures)

pub returns-in_err-length_at-in-9 : goal.returns-in_err-length_at-in-9
unfolding sized_of
returns-in_err-length_at-in-9 c =
    let a = c.args in
    let l = part a.tape.now a.at a.end in
    let f = part-first a.tape.now a.at a.end (omega arith) in
    rw (scalar-clob l (f ∙ c.in-9.is), text_by l _ c.in_err-length_at-in-9.ensures, c.from_residual-in_err-length_at-in-9.ensures)

pub returns-in_ok-length_at-in-9 : goal.returns-in_ok-length_at-in-9
unfolding sized_of
returns-in_ok-length_at-in-9 c =
    let a = c.args in
    let l = part a.tape.now a.at a.end in
    let f = part-first a.tape.now a.at a.end (omega arith) in
    rw (scalar-clob l (f ∙ c.in-9.is), text_by l _ c.in_ok-length_at-in-9.ensures)

pub returns-in_err-length_at-in-15 : goal.returns-in_err-length_at-in-15
unfolding sized_of
returns-in_err-length_at-in-15 c =
    let a = c.args in
    let l = part a.tape.now a.at a.end in
    let f = part-first a.tape.now a.at a.end (omega arith) in
    rw (scalar-blob l (f ∙ c.in-15.is), text_by l _ c.in_err-length_at-in-15.ensures, c.from_residual-in_err-length_at-in-15.ensures)

pub returns-in_ok-length_at-in-15 : goal.returns-in_ok-length_at-in-15
unfolding sized_of
returns-in_ok-length_at-in-15 c =
    let a = c.args in
    let l = part a.tape.now a.at a.end in
    let f = part-first a.tape.now a.at a.end (omega arith) in
    rw (scalar-blob l (f ∙ c.in-15.is), text_by l _ c.in_ok-length_at-in-15.ensures)

pub returns-in_default : goal.returns-in_default
returns-in_default c =
    let a = c.args in
    let f = part-first a.tape.now a.at a.end (omega arith) in
    sym (scalar-other _ (omega arith) (λ e. omega arith) (λ e. omega arith) (λ e. omega arith))
