-- `tape::check::name_number` meets its contract. Assumes nothing.
use mathlib.Core.Logic.{inl, inr}
use mathlib.Core.Path.{◌∙◌}
use Rattle.tape.specs.Tape.{name_of}
use Rattle.tape.specs.CheckSteps.{name_number_in}
use Rattle.tape.proofs.CodeFacts.{number-name}
use Rattle.tape.proofs.check.name_number.Goals as goal

pub returns-in-Struct : goal.returns-in-Struct
returns-in-Struct c = rw c.in-Struct.is (c.is_number.ensures ∙ number-name _)

pub returns-in-Top : goal.returns-in-Top
unfolding name_number_in name_of
returns-in-Top c = elim c.in-Top.is [ inl e ↦ rw e | inr g ↦ elim g [ inl e ↦ rw e | inr e ↦ rw e ] ]
