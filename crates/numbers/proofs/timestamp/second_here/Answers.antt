-- `timestamp::second_here` meets its contract. Assumes nothing.
use mathlib.Core.Path.{ap, ◌∙◌}
use native.Mathlib.Omega.{arith}
use lib.ListN.{length, length-set}
use lib.Seq.{length-sets}
use Rattle.numbers.proofs.TimestampStores.{second_stores}
use Rattle.numbers.proofs.timestamp.second_here.Goals as goal

pub overflow_add-buf : goal.overflow_add-buf
overflow_add-buf c = omega (arith, c.well_formed.0.0)

pub overflow_add-pos : goal.overflow_add-pos
overflow_add-pos c = omega (arith, c.well_formed.0.0)

pub time_here-requires : goal.time_here-requires
time_here-requires c = simp length-set (omega arith)

pub returns : goal.returns
returns c =
    let x = c.args in
    let t = x.t in
    let v = c.four_pairs-d in
    let w = c.four_pairs-c in
    second_stores x.buf.now c.date_here.new.buf c.time_here.new.buf x.pos t.year t.month t.day t.hour t.minute t.second v.result w.result v.ensures w.ensures c.date_here.ensures c.time_here.ensures

pub shape_of-buf : goal.shape_of-buf
shape_of-buf c = ap length (returns c) ∙ simp length-sets
