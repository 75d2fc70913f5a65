-- `tape::check::behind_name` meets its contract. Assumes nothing.
use mathlib.Core.Logic.{inl, inr}
use mathlib.Core.Path.{sym, ◌∙◌}
use native.Mathlib.Omega.{arith}
use Rattle.tape.specs.Bytes.{part}
use Rattle.tape.specs.Tree.{encode_sym}
use Rattle.tape.specs.Tape.{sym_of, name_of, sym_fault}
use Rattle.tape.proofs.Reading.{sym_sound}
use Rattle.tape.proofs.CodeFacts.{read_within, sym_read, name_bad, name_good}
use Rattle.tape.proofs.Parts.{trailed}
use Rattle.tape.proofs.check.behind_name.Goals as goal

pub returns-then-n-eq0 : goal.returns-then-n-eq0
returns-then-n-eq0 c =
    let a = c.args in
    let l = part a.tape.now a.at a.end in
    rw c.in-Struct.is (name_bad l a.at a.end (sym c.if-n-eq0.true ∙ c.sym_size-n.ensures))

pub overflow_add-result : goal.overflow_add-result
overflow_add-result c =
    let a = c.args in
    let l = part a.tape.now a.at a.end in
    let w = read_within sym_fault encode_sym a.tape.now a.at a.end (sym_of l) _ c.requires.at_le_end (trailed c.requires.end_in_bounds) (sym_sound l) (sym_read l _ c.sym_size-n.ensures c.if-n-eq0.false) in
    record { fits = omega arith }

pub returns-else-n-eq0 : goal.returns-else-n-eq0
returns-else-n-eq0 c =
    let a = c.args in
    let l = part a.tape.now a.at a.end in
    rw c.in-Struct.is (name_good l a.at a.end _ c.sym_size-n.ensures c.if-n-eq0.false)

pub returns-in-Top : goal.returns-in-Top
unfolding name_of
returns-in-Top c = elim c.in-Top.is [
  | inl e ↦ rw e (omega arith)
  | inr g ↦ elim g [ inl e ↦ rw e (omega arith) | inr e ↦ rw e (omega arith) ]
]
