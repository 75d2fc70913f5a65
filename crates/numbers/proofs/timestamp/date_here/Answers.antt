-- `timestamp::date_here` meets its contract. Assumes nothing.
use mathlib.Core.Path.{ap, ◌∙◌}
use Prim.Native.Nat.{◌+◌, ◌/◌}
use native.Mathlib.Omega.{arith}
use lib.ListN.{length, length-set}
use lib.Seq.{length-sets}
use Rattle.output.specs.Wrote.{le_bytes}
use Rattle.numbers.proofs.Stores.{length_mark, two_marks}
use Rattle.numbers.proofs.timestamp.date_here.Goals as goal

pub store-requires-2 : goal.store-requires-2
store-requires-2 c = simp length-set (omega arith)

pub bounds-buf-pos-2 : goal.bounds-buf-pos-2
bounds-buf-pos-2 c =
    let x = c.args in
    let e = length_mark c.store.new.buf c.store-2.new.buf (x.pos + 4) 45 (x.pos + 5) (le_bytes 2 (x.d / 4294967296)) c.store-2.ensures in
    omega arith

pub store-requires-3 : goal.store-requires-3
store-requires-3 c =
    let x = c.args in
    let e = length_mark c.store.new.buf c.store-2.new.buf (x.pos + 4) 45 (x.pos + 5) (le_bytes 2 (x.d / 4294967296)) c.store-2.ensures in
    simp length-set (omega arith)

pub returns : goal.returns
returns c =
    let x = c.args in
    two_marks x.buf.now c.store.new.buf c.store-2.new.buf c.store-3.new.buf x.pos 4 x.d (x.d / 4294967296) (x.d / 281474976710656) 45 45 c.store.ensures c.store-2.ensures c.store-3.ensures

pub shape_of-buf : goal.shape_of-buf
shape_of-buf c = ap length (returns c) ∙ simp length-sets
