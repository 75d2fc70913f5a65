-- `tape::value_place` meets its contract. Assumes nothing.
use mathlib.Core.Path.{sym, ◌∙◌}
use native.Mathlib.Omega.{arith}
use Rattle.tape.specs.Bytes.{part}
use Rattle.tape.specs.Tape.{name_of, head_of}
use Rattle.tape.specs.Tree.{encode_name}
use Rattle.tape.proofs.Reading.{name_sound}
use Rattle.tape.proofs.CodeReading.{place-within, head_one, head-none}
use Rattle.tape.proofs.Sizes.{taken_none, taken_there}
use Rattle.tape.proofs.value_place.Goals as goal

pub returns-in_default : goal.returns-in_default
returns-in_default c =
    let a = c.args in
    let e = sym c.name_end.ensures ∙ c.in_default.is in
    let n = taken_none a.at (head_of a.frame (part a.tape.now a.at a.end)) (head-none a.frame a.tape.now a.at a.end e) in
    omega arith

pub notes_end-requires : goal.notes_end-requires
notes_end-requires c =
    let a = c.args in
    let e = sym c.name_end.ensures ∙ c.in-Some.is in
    let w = place-within encode_name a.tape.now a.at a.end _ (name_of a.frame (part a.tape.now a.at a.end)) c.requires.at_le_end c.requires.end_in_bounds (name_sound a.frame (part a.tape.now a.at a.end)) e in
    record { at_le_end = w.1; end_in_bounds = c.requires.end_in_bounds }

pub returns-in_default-notes_end : goal.returns-in_default-notes_end
returns-in_default-notes_end c =
    let a = c.args in
    let e = sym c.name_end.ensures ∙ c.in-Some.is in
    let f = head_one a.frame a.tape.now a.at a.end _ e ∙ sym c.notes_end.ensures ∙ c.in_default-notes_end.is in
    let n = taken_none a.at (head_of a.frame (part a.tape.now a.at a.end)) f in
    omega arith

pub returns : goal.returns
returns c =
    let a = c.args in
    let e = sym c.name_end.ensures ∙ c.in-Some.is in
    let f = head_one a.frame a.tape.now a.at a.end _ e ∙ sym c.notes_end.ensures ∙ c.in-Some-notes_end.is in
    taken_there a.at _ (head_of a.frame (part a.tape.now a.at a.end)) f
