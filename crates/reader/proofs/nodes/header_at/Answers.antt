-- `nodes::header_at` meets its contract: its stores are those of the text. Assumes nothing.
use mathlib.Core.Path.{◌∙◌}
use native.Mathlib.Numerals.{add-one}
use native.Mathlib.Omega.{arith}
use lib.ListN.{length-set}
use Rattle.reader.proofs.nodes.header_at.Goals as goal

pub store-requires : goal.store-requires
store-requires c = simp length-set (omega arith)

pub shape_of-buf : goal.shape_of-buf
shape_of-buf c = c.store.auto.buf ∙ simp length-set

pub returns : goal.returns
returns c = rw (add-one, c.far.ensures) at c.store.ensures
