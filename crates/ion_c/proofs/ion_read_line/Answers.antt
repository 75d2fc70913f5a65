-- `ion_c::ion_read_line` meets its contract. Assumes nothing.
use mathlib.Core.Path.{ap, ◌∙◌}
use mir.Syntax.{w64}
use mir.ValLaws.{to_z-of_z}
use Rattle.line_reader.specs.Book.{Call}
use Rattle.line_reader.specs.Calls.{called}
use Rattle.ion_c.specs.Code.{code}
use Rattle.ion_c.proofs.Small.{step_small}
use Rattle.ion_c.proofs.ion_read_line.Goals as goal

pub code_of-requires : goal.code_of-requires
unfolding called
code_of-requires c = rw (ap (λ (c : Call). c.answer) c.line_at-c.ensures) (step_small _ _ _)

pub returns : goal.returns
unfolding called
returns c =
    let e = c.line_at-c.ensures in
    record { answer = to_z-of_z w64 c.code_of.result (record { sfits = c.code_of.type_inv }) ∙ c.code_of.ensures ∙ ap (λ (c : Call). code c.answer) e; offset = ap (λ (c : Call). c.at) e; buffer = ap (λ (c : Call). c.buf) e }
