-- `ion_c::ion_convert` meets its contract. Assumes nothing.
use mathlib.Core.Path.{ap, ◌∙◌}
use mir.Syntax.{w64}
use mir.ValLaws.{to_z-of_z}
use Rattle.ion_c.specs.Code.{code}
use Rattle.ion_c.proofs.Small.{convert_small}
use borrow.Author.Rules.{rules}
use Rattle.ion_c.proofs.ion_convert.Goals as goal

pub code_of-requires : goal.code_of-requires
code_of-requires c = rw c.convert-a.ensures.answer (convert_small _ _ (search rules))

pub returns : goal.returns
returns c =
    record { answer = to_z-of_z w64 c.code_of.result (record { sfits = c.code_of.type_inv }) ∙ c.code_of.ensures ∙ ap code c.convert-a.ensures.answer; buffer = c.convert-a.ensures.buffer }
