-- `escapes::put_text_clipped` meets its contract. Assumes nothing.
use Prim.Native.Nat.{◌<◌}
use mathlib.Core.Path.{◌≡◌}
use mathlib.Core.List.{[]}
use native.Mathlib.Omega.{arith}
use lib.ListN.{length, drop, drop_of_length-le}
use Rattle.output.proofs.Laws.{begin, more, finish, wrote-length}
use Rattle.text_rules.specs.Escapes.{text_body}
use Rattle.text_rules.proofs.EscapesLaws.{body_step}
use borrow.Author.Rules.{rules}
use Rattle.text_rules.proofs.escapes.put_text_clipped.Goals as goal

pub loop-b-init : goal.loop-b-init
loop-b-init c = (omega arith, begin _ _ _ _ c.bounded-p.ensures (search rules))

pub loop-b-preserved : goal.loop-b-preserved
loop-b-preserved c =
    let l = c.loop-b in
    let s = c.args.s.now in
    let lt : l.b-index < length s = c.loop-b-test.true in
    (omega arith, more l.invariant.1 c.put_text_byte-p.ensures (body_step s l.b-index lt))

pub shape_of-buf : goal.shape_of-buf
shape_of-buf c = wrote-length c.loop-b.invariant.1.wrote

pub returns : goal.returns
unfolding text_body
returns c =
    let l = c.loop-b in
    let s = c.args.s.now in
    let e : drop l.b-index s ≡ [] = drop_of_length-le s {i = l.b-index} (omega arith) in
    finish l.invariant.1 (rw e)
