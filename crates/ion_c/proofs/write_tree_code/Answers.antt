-- `ion_c::write_tree_code` meets its contract. Assumes nothing.
use mathlib.Core.Path.{ap, ◌∙◌}
use mir.Syntax.{w64}
use mir.ValLaws.{to_z-of_z}
use Rattle.ion_c.specs.Code.{code}
use Rattle.ion_c.proofs.Small.{cut-whole, written_small}
use borrow.Author.Rules.{rules}
use Rattle.ion_c.proofs.write_tree_code.Goals as goal

pub code_of-requires : goal.code_of-requires
code_of-requires c = rw c.write_tree_with-a.ensures.answer (written_small _ _ _ (search rules))

pub returns : goal.returns
returns c =
    let e = rw (cut-whole c.args.tape.now) at c.write_tree_with-a.ensures in
    record { answer = to_z-of_z w64 c.code_of.result (record { sfits = c.code_of.type_inv }) ∙ c.code_of.ensures ∙ ap code e.answer; buffer = e.buffer }
