-- `timestamp::clock_here` meets its contract. Assumes nothing.
use mathlib.Core.Path.{ap, ◌∙◌}
use native.Mathlib.Omega.{arith}
use lib.ListN.{length, length-set}
use lib.Seq.{length-sets}
use Rattle.numbers.proofs.TimestampStores.{clock_stores}
use Rattle.numbers.proofs.timestamp.clock_here.Goals as goal

pub store-requires-2 : goal.store-requires-2
store-requires-2 c = simp length-set (omega arith)

pub returns : goal.returns
returns c =
    let x = c.args in
    let w = c.four_pairs-w in
    clock_stores x.buf.now c.store.new.buf c.store-2.new.buf x.pos x.hour x.minute w.result w.ensures c.store.ensures c.store-2.ensures

pub shape_of-buf : goal.shape_of-buf
shape_of-buf c = ap length (returns c) ∙ simp length-sets
