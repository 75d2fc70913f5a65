-- `value_writer::write_leaf` meets its contract. Assumes nothing.
use mathlib.Core.Path.{sym, ap}
use native.Mathlib.Omega.{arith}
use mir.Syntax.{w32, w64}
use mir.Val.{SFits}
use mir.ValLaws.{to_z-of_z}
use Rattle.output.proofs.Laws.{wrote_empty}
use Rattle.tape.specs.Bytes.{part}
use Rattle.tape.specs.Tree.{encode_scalar}
use Rattle.tape.specs.Tape.{scalar_of}
use Rattle.tape.specs.Steps.{place_of}
use Rattle.tape.specs.Fine.{Bytes}
use Rattle.tape.proofs.Reading.{scalar_sound}
use Rattle.tape.proofs.CodeReading.{place-within}
use Rattle.writer.specs.Text.{scalar_text}
use Rattle.writer.proofs.Leaves.{int_leaf, decimal_leaf, timestamp_leaf, string_leaf, rare_leaf}
use Rattle.tape.proofs.Parts.{trailed}
use borrow.Author.Rules.{rules}
use Rattle.writer.proofs.value_writer.write_leaf.Goals as goal

pub int_of-requires : goal.int_of-requires
int_of-requires c =
    let a = c.args in
    let r = (int_leaf a.tape.now a.at a.end c.requires.at_le_end (trailed c.requires.end_in_bounds) c.requires.nonzero c.if-k-eq2.true).room in
    let k = c.requires.end_in_bounds in
    omega arith

pub returns-then-k-eq2 : goal.returns-then-k-eq2
unfolding scalar_text
returns-then-k-eq2 c =
    let a = c.args in
    let q = int_leaf a.tape.now a.at a.end c.requires.at_le_end (trailed c.requires.end_in_bounds) c.requires.nonzero c.if-k-eq2.true in
    let z = c.int_of.result in
    let k : SFits w64 z = search rules in
    record { text = rw q.read (rw (to_z-of_z w64 z k, c.int_of.ensures) at c.format_integer-p.ensures); place = rw q.read }

pub magnitude_of-m-requires : goal.magnitude_of-m-requires
magnitude_of-m-requires c =
    let a = c.args in
    let r = (decimal_leaf a.tape.now a.at a.end c.requires.at_le_end (trailed c.requires.end_in_bounds) c.requires.nonzero c.if-k-eq4.true).room in
    let k = c.requires.end_in_bounds in
    omega arith

pub exponent_of-e-requires : goal.exponent_of-e-requires
exponent_of-e-requires c =
    let a = c.args in
    let r = (decimal_leaf a.tape.now a.at a.end c.requires.at_le_end (trailed c.requires.end_in_bounds) c.requires.nonzero c.if-k-eq4.true).room in
    let k = c.requires.end_in_bounds in
    omega arith

pub returns-then-k-eq4 : goal.returns-then-k-eq4
unfolding scalar_text
returns-then-k-eq4 c =
    let a = c.args in
    let q = decimal_leaf a.tape.now a.at a.end c.requires.at_le_end (trailed c.requires.end_in_bounds) c.requires.nonzero c.if-k-eq4.true in
    let z = c.exponent_of-e.result in
    let k : SFits w32 z = search rules in
    record { text = rw q.read (rw (to_z-of_z w32 z k, c.exponent_of-e.ensures, c.magnitude_of-m.ensures) at c.format_text-p.ensures); place = rw q.read }

pub timestamp_of-requires : goal.timestamp_of-requires
timestamp_of-requires c =
    let a = c.args in
    let r = (timestamp_leaf a.tape.now a.at a.end c.requires.at_le_end (trailed c.requires.end_in_bounds) c.requires.nonzero c.if-k-eq5.true).room in
    let k = c.requires.end_in_bounds in
    omega arith

pub returns-then-k-eq5 : goal.returns-then-k-eq5
unfolding scalar_text
returns-then-k-eq5 c =
    let a = c.args in
    let q = timestamp_leaf a.tape.now a.at a.end c.requires.at_le_end (trailed c.requires.end_in_bounds) c.requires.nonzero c.if-k-eq5.true in
    record { text = rw q.read (rw c.timestamp_of.ensures at c.format-p.ensures); place = rw q.read }

pub write_string-p-requires : goal.write_string-p-requires
write_string-p-requires c =
    let a = c.args in
    let q = string_leaf a.tape.now a.at a.end c.requires.at_le_end (trailed c.requires.end_in_bounds) c.requires.nonzero _ c.u32_at-n.ensures.0 c.if-k-eq8.true in
    record { n_bound = q.room; end_in_bounds = trailed c.requires.end_in_bounds }

pub returns-then-k-eq8 : goal.returns-then-k-eq8
unfolding scalar_text
returns-then-k-eq8 c =
    let a = c.args in
    let q = string_leaf a.tape.now a.at a.end c.requires.at_le_end (trailed c.requires.end_in_bounds) c.requires.nonzero _ c.u32_at-n.ensures.0 c.if-k-eq8.true in
    record { text = rw q.read c.write_string-p.ensures; place = rw q.read }

pub returns-in_default : goal.returns-in_default
returns-in_default c =
    let a = c.args in
    let e = sym (rw c.in_default.is at c.scalar_at.ensures) in
    record { text = rw e (wrote_empty _ _ _ c.bounded.ensures (search rules)); place = rw e (omega arith) }

pub write_scalar-requires : goal.write_scalar-requires
write_scalar-requires c =
    let a = c.args in
    let e = sym (rw c.in-Some.is at c.scalar_at.ensures) in
    let r = (place-within encode_scalar a.tape.now a.at a.end _ (scalar_of (part a.tape.now a.at a.end)) c.requires.at_le_end (trailed c.requires.end_in_bounds) (scalar_sound _) (ap (place_of a.at) e)).1 in
    let all : Bytes a.tape.now = λ i. (c.type_inv.tape i).fits in
    let rare = rare_leaf a.tape.now a.at a.end c.requires.at_le_end (trailed c.requires.end_in_bounds) c.requires.nonzero all c.in-Some.s e c.if-k-eq2.false c.if-k-eq4.false c.if-k-eq5.false c.if-k-eq6.false c.if-k-eq8.false in
    record { s_bound = r; end_in_bounds = trailed c.requires.end_in_bounds; rare = rare }

pub returns : goal.returns
returns c =
    let e = sym (rw c.in-Some.is at c.scalar_at.ensures) in
    record { text = rw e (c.write_scalar.ensures.text _); place = rw e c.write_scalar.ensures.place }
