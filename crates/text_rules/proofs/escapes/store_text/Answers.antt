-- `escapes::store_text` meets its contract. Assumes nothing.
use Prim.Native.Nat.{◌+◌, ◌<◌}
use mathlib.Core.Path.{◌≡◌, ap}
use mathlib.Core.List.{[]}
use native.Mathlib.Omega.{arith}
use lib.ListN.{length, drop, get_or, length-append, drop_of_length-le}
use Rattle.output.proofs.Laws.{start, more, finish, wrote-length}
use Rattle.text_rules.specs.Escapes.{text_escape, text_body}
use Rattle.text_rules.proofs.EscapesLaws.{body_step}
use borrow.Author.Rules.{rules}
use Rattle.text_rules.proofs.escapes.store_text.Goals as goal

pub loop-b-init : goal.loop-b-init
loop-b-init c = (omega arith, omega (arith, c.requires), start _ _ _ (omega (arith, c.requires, c.well_formed)) (search rules))

pub store_text_byte-p-requires : goal.store_text_byte-p-requires
store_text_byte-p-requires c =
    let l = c.loop-b in
    let s = c.args.s.now in
    let e = ap length (body_step s l.b-index c.loop-b-test.true) in
    omega (arith, l.invariant.1, e, length-append (text_escape (get_or s l.b-index 0)) (text_body (drop (l.b-index + 1) s)), wrote-length l.invariant.2.wrote)

pub loop-b-preserved : goal.loop-b-preserved
loop-b-preserved c =
    let l = c.loop-b in
    let s = c.args.s.now in
    let lt : l.b-index < length s = c.loop-b-test.true in
    let w = c.store_text_byte-p.ensures in
    let e = ap length (body_step s l.b-index lt) in
    let k = length-append (text_escape (get_or s l.b-index 0)) (text_body (drop (l.b-index + 1) s)) in
    (omega arith, omega (arith, l.invariant.1, w.count, e, k), more l.invariant.2 w (body_step s l.b-index lt))

pub shape_of-buf : goal.shape_of-buf
shape_of-buf c = wrote-length c.loop-b.invariant.2.wrote

pub returns : goal.returns
unfolding text_body
returns c =
    let l = c.loop-b in
    let s = c.args.s.now in
    let e : drop l.b-index s ≡ [] = drop_of_length-le s {i = l.b-index} (omega arith) in
    finish l.invariant.2 (rw e)
