-- `tape::check::is_free` meets its contract. Assumes nothing.
use mathlib.Core.Logic.{inl, inr}
use lib.Dec.{eqb}
use lib.ListN.{get_or}
use Rattle.tape.proofs.Parts.{part-first}
use Rattle.tape.specs.Tape.{free_at}
use Rattle.tape.proofs.CodeReading.{if_not}
use Rattle.tape.proofs.check.is_free.Goals as goal

pub returns-in-Top : goal.returns-in-Top
unfolding free_at
returns-in-Top c =
    let a = c.args in
    let f = part-first a.tape.now a.at a.end c.requires.at_lt_end in
    rw (c.in-Top.is, f) (if_not (eqb (get_or a.tape.now a.at 0) 13))

pub returns-in-List : goal.returns-in-List
unfolding free_at
returns-in-List c = elim c.in-List.is [ inl e ↦ rw e | inr g ↦ elim g [ inl e ↦ rw e | inr e ↦ rw e ] ]
