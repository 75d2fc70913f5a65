-- `clobs::put_clob_by` meets its contract. Assumes nothing.
use mathlib.Core.Path.{◌≡◌}
use mathlib.Core.List.{[]}
use native.Mathlib.Omega.{arith}
use lib.ListN.{drop, drop_of_length-le}
use Rattle.output.proofs.Laws.{begin, more, finish, wrote-length}
use Rattle.text_rules.specs.Escapes.{clob_body}
use Rattle.text_rules.proofs.ClobLaws.{clob-step}
use borrow.Author.Rules.{rules}
use Rattle.text_rules.proofs.clobs.put_clob_by.Goals as goal

pub loop-i-init : goal.loop-i-init
loop-i-init c = (omega arith, begin _ _ _ _ c.bounded-p.ensures (search rules))

pub overflow_cast-b : goal.overflow_cast-b
overflow_cast-b c = omega (arith, c.shared_slice_known-in-loop-i-1.given c.loop-i.i)

pub bounds-t-b : goal.bounds-t-b
bounds-t-b c = omega (arith, c.shared_slice_known-in-loop-i-1.given c.loop-i.i)

pub put_clob_byte-p-requires : goal.put_clob_byte-p-requires
put_clob_byte-p-requires c =
    c.requires.at _ (omega (arith, c.shared_slice_known-in-loop-i-1.given c.loop-i.i))

pub loop-i-preserved : goal.loop-i-preserved
loop-i-preserved c =
    let l = c.loop-i in
    let s = c.args.s.now in
    (omega arith, more l.invariant.1 c.put_clob_byte-p.ensures (clob-step s l.i c.loop-i-test.true))

pub shape_of-buf : goal.shape_of-buf
shape_of-buf c = wrote-length c.loop-i.invariant.1.wrote

pub returns : goal.returns
unfolding clob_body
returns c =
    let l = c.loop-i in
    let s = c.args.s.now in
    let e : drop l.i s ≡ [] = drop_of_length-le s {i = l.i} (omega arith) in
    finish l.invariant.1 (rw e)
