-- `numbers::decimal::pointed_short` meets its contract. Assumes nothing.
use mathlib.Core.Path.{ap, ◌∙◌}
use native.Mathlib.Omega.{arith}
use lib.ListN.{length}
use lib.Seq.{length-sets}
use Rattle.numbers.proofs.Pointed.{under-8, point_short}
use Rattle.numbers.proofs.decimal.pointed_short.Goals as goal

pub eight_digits-requires : goal.eight_digits-requires
eight_digits-requires c = under-8 c.args.n (omega arith) (omega arith)

pub returns : goal.returns
returns c =
    let x = c.args in
    let q = c.requires in
    let d = c.eight_digits in
    point_short x.buf.now c.store_low.new.buf c.store_low-2.new.buf x.pos x.n d.result x.w x.k q.0 q.1 q.3 d.ensures c.store_low.ensures c.store_low-2.ensures

pub shape_of-buf : goal.shape_of-buf
shape_of-buf c = ap length (returns c) ∙ simp length-sets
