-- `converter::put_converted` meets its contract. Assumes nothing.
use Prim.Native.Nat.{ℕ}
use mathlib.Core.Path.{◌≡◌}
use mathlib.Core.List.{List, []}
use native.Mathlib.Omega.{arith}
use lib.ListN.{drop, drop_of_length-le}
use Rattle.output.proofs.Laws.{begin, more, finish, wrote-length}
use Rattle.converter.proofs.Steps.{block_step}
use Rattle.converter.proofs.Texts.{converted-nothing}
use borrow.Author.Rules.{rules}
use Rattle.converter.proofs.put_converted.Goals as goal

pub loop-i-init : goal.loop-i-init
loop-i-init c = (omega arith, begin _ _ _ _ c.bounded-p.ensures (search rules))

pub loop-i-smaller : goal.loop-i-smaller
loop-i-smaller c = let k = c.block_end-e.ensures in omega (arith, k.0, k.1)

pub loop-i-preserved : goal.loop-i-preserved
loop-i-preserved c =
    let k = c.block_end-e in
    let l = c.loop-i in
    let s : List ℕ = c.args.s.now in
    (k.ensures.1, more l.invariant.1 c.put_converted_block-p.ensures (block_step s l.i k.result (omega (arith, k.ensures.0))))

pub shape_of-buf : goal.shape_of-buf
shape_of-buf c = wrote-length c.loop-i.invariant.1.wrote

pub returns : goal.returns
returns c =
    let l = c.loop-i in
    let s : List ℕ = c.args.s.now in
    let e : drop l.i s ≡ [] = drop_of_length-le s {i = l.i} (omega (arith, c.loop-i-test.false)) in
    finish l.invariant.1 (rw e converted-nothing)
