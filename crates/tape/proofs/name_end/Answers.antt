-- `tape::name_end` meets its contract. Assumes nothing.
use mathlib.Core.Path.{ap, ◌∙◌}
use mathlib.Core.Logic.{inl, inr}
use native.Mathlib.Omega.{arith}
use Rattle.tape.specs.Tape.{name_of}
use Rattle.std.specs.Prelude.{Some}
use Rattle.tape.proofs.CodeReading.{name_struct}
use Rattle.tape.proofs.name_end.Goals as goal

pub returns-in-Struct : goal.returns-in-Struct
returns-in-Struct c = rw c.in-Struct.is (c.sym_end.ensures ∙ name_struct _ _)

pub returns-in-Top : goal.returns-in-Top
unfolding name_of
returns-in-Top c = elim c.in-Top.is [
  | inl f ↦ rw f (ap Some (omega arith))
  | inr g ↦ elim g [ inl f ↦ rw f (ap Some (omega arith)) | inr f ↦ rw f (ap Some (omega arith)) ]
]
