-- `numbers::decimal::pointed_long` meets its contract. Assumes nothing.
use mathlib.Core.Path.{ap, ◌∙◌}
use native.Mathlib.Omega.{arith}
use lib.ListN.{length}
use lib.Seq.{length-sets}
use Rattle.numbers.proofs.Pointed.{under-16, point_long}
use Rattle.numbers.proofs.decimal.pointed_long.Goals as goal

pub eight_digits-requires : goal.eight_digits-requires
eight_digits-requires c = under-16 c.args.n (omega arith) (omega arith)

pub returns : goal.returns
returns c =
    let x = c.args in
    let q = c.requires in
    let d = c.eight_digits in
    let e = c.eight_digits-2 in
    point_long x.buf.now c.store.new.buf c.store-2.new.buf c.store_low.new.buf x.pos x.n d.result e.result x.w x.k (omega arith) q.0 q.1 q.2 q.4 d.ensures e.ensures c.store.ensures c.store-2.ensures c.store_low.ensures

pub shape_of-buf : goal.shape_of-buf
shape_of-buf c = ap length (returns c) ∙ simp length-sets
