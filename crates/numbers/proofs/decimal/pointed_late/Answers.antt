-- `numbers::decimal::pointed_late` meets its contract. Assumes nothing.
use mathlib.Core.Path.{ap, ◌∙◌}
use native.Mathlib.Omega.{arith}
use lib.ListN.{length}
use lib.Seq.{length-sets}
use Rattle.numbers.proofs.Pointed.{under-16, point_late}
use Rattle.numbers.proofs.decimal.pointed_late.Goals as goal

pub eight_digits-requires : goal.eight_digits-requires
eight_digits-requires c = under-16 c.args.n (omega arith) (omega arith)

pub returns : goal.returns
returns c =
    let x = c.args in
    let q = c.requires in
    let d = c.eight_digits in
    let e = c.eight_digits-l in
    let f = c.store in
    let g = c.store-2 in
    let h = c.store_last in
    point_late x.buf.now f.new.buf g.new.buf h.new.buf x.pos x.n d.result e.result x.w x.k (omega arith) q.0 q.1 q.2 q.3 q.4 d.ensures e.ensures f.ensures g.ensures h.ensures

pub shape_of-buf : goal.shape_of-buf
shape_of-buf c = ap length (returns c) ∙ simp length-sets
