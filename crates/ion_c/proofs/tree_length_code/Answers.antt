-- `ion_c::tree_length_code` meets its contract. Assumes nothing.
use mathlib.Core.Path.{ap, ◌∙◌}
use mir.Syntax.{w64}
use mir.ValLaws.{to_z-of_z}
use Rattle.ion_c.specs.Code.{code}
use Rattle.ion_c.proofs.Small.{cut-whole, tree_length-small}
use Rattle.ion_c.proofs.tree_length_code.Goals as goal

pub code_of-requires : goal.code_of-requires
code_of-requires c =
    rw (c.tree_length_with-a.ensures, cut-whole c.args.tape.now) (tree_length-small _ _ (λ i. (c.type_inv.tape i).fits))

pub returns : goal.returns
returns c =
    let e = rw (cut-whole c.args.tape.now) at c.tree_length_with-a.ensures in
    to_z-of_z w64 c.code_of.result (record { sfits = c.code_of.type_inv }) ∙ c.code_of.ensures ∙ ap code e
