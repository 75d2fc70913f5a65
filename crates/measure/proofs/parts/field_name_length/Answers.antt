-- `parts::field_name_length` meets its contract. Assumes nothing.
use mathlib.Core.Path.{refl}
use mathlib.Core.Logic.{inl, inr}
use Rattle.tape.specs.Tape.{name_of}
use Rattle.writer.specs.Text.{name_text}
use Rattle.measure.proofs.parts.field_name_length.Goals as goal

pub returns-in-Top : goal.returns-in-Top
unfolding name_of name_text
returns-in-Top c = elim c.in-Top.is [ inl e ↦ rw e refl | inr g ↦ elim g [ inl e ↦ rw e refl | inr e ↦ rw e refl ] ]
