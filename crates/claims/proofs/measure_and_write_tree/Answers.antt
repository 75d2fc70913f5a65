-- `claims::measure_and_write_tree` meets its contract: a refusal is handed on; a text that was measured is written in as many bytes, or cut by one. Assumes
-- nothing.
use Prim.Native.Nat.{ℕ}
use mathlib.Core.Path.{ap, sym, ◌∙◌}
use mathlib.Core.List.{List, ◌++◌}
use native.Mathlib.Omega.{arith}
use lib.ListN.{length, drop}
use lib.Seq.{length-take-le}
use Rattle.tape.specs.Tape.{nodes_of}
use Rattle.tape.specs.Answer.{outcome}
use Rattle.tree.specs.Text.{tree_text}
use Rattle.claims.specs.Reserved.{reserved_answer, reserved_leaves}
use Rattle.claims.proofs.Lengths.{tree-length}
use Rattle.claims.proofs.Reserve.{handed, room_most, too_few, reserved-answer, reserved-leaves}
use Rattle.claims.proofs.measure_and_write_tree.Goals as goal

pub returns-in_default : goal.returns-in_default
returns-in_default c =
    let a = c.args in
    let l = c.tree_length_with-a in
    let h = handed a.less l.result c.in_default.not-Count (tree_text a.quoted (nodes_of a.tape.now)) a.out.now in
    record { answer = sym h.0 ∙ ap (λ x. reserved_answer a.less x (length a.out.now)) l.ensures; buffer = sym h.1 ∙ ap (λ x. reserved_leaves a.less x (tree_text a.quoted (nodes_of a.tape.now)) a.out.now) l.ensures }

pub returns-then-out-k : goal.returns-then-out-k
returns-then-out-k c =
    let e = sym c.tree_length_with-a.ensures ∙ ap outcome c.in-Count.is in
    let r = too_few (tree-length c.args.quoted c.args.tape.now) c.args.out.now _ c.args.less e c.if-out-k.true in
    record { answer = r.0; buffer = r.1 }

pub slice_bounds-write_tree_with-end : goal.slice_bounds-write_tree_with-end
slice_bounds-write_tree_with-end c =
    let q = room_most c.args.less c.in-Count.k in
    let l = c.if-out-k.false in
    omega (arith, c.room_for-n.ensures)

pub slice_bounds-write_tree_with-end-2 : goal.slice_bounds-write_tree_with-end-2
slice_bounds-write_tree_with-end-2 c =
    let q = room_most c.args.less c.in-Count.k in
    let l = c.if-out-k.false in
    sym (length-take-le _ _ (omega (arith, c.room_for-n.ensures)))

pub returns : goal.returns
returns c =
    let e = sym c.tree_length_with-a.ensures ∙ ap outcome c.in-Count.is in
    let w = c.write_tree_with.ensures in
    let l = c.if-out-k.false in
    let r = c.room_for-n.ensures in
    record { answer = w.answer ∙ reserved-answer (tree-length c.args.quoted c.args.tape.now) c.args.out.now _ c.args.less e (omega arith) _ r; buffer = ap (λ (x : List ℕ). x ++ drop c.room_for-n.result c.args.out.now) w.buffer ∙ reserved-leaves (tree-length c.args.quoted c.args.tape.now) c.args.out.now _ c.args.less e (omega arith) _ r }
