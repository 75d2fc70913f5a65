-- `tree_length_with` meets its contract: the tape's own refusals, one node that is no marker and has no identifier but 0, then the sums, which are the
-- text's length. Assumes nothing.
use mathlib.Core.Path.{refl, sym, ◌∙◌}
use native.Mathlib.Omega.{arith}
use Rattle.tape.specs.Fine.{Bytes}
use Rattle.tape.proofs.Walking.{verdict-told}
use Rattle.tape.proofs.CodeWalk.{fault_some}
use Rattle.measure.proofs.Verdicts.{sums-told}
use Rattle.tree.proofs.Verdicts.{tape_bad, tape-many, tape_numbered, tape-marked, tape_good, length-refused, length_counted}
use Rattle.tree.proofs.tree_length_with.Goals as goal
use Rattle.tree.proofs.tree_length_with.Goals.{then-c-ne1-via-then-c-ne1, then-c-ne1-via-else-c-ne1+then-c, then-c-ne1-via-else-c-ne1+else-c+then-tape-eq14}

pub measure_tape-requires : goal.measure_tape-requires
measure_tape-requires c = refl

pub returns-in-Err : goal.returns-in-Err
returns-in-Err c =
    let f = c.in-Err.ensures.checked.fault in
    let nz = fault_some c.in-Err.fault in
    c.from.ensures ∙ length-refused _ _ _ nz (tape_bad _ (λ z. nz (f ∙ z)) ∙ sym f)

pub bounds-tape-0 : goal.bounds-tape-0
bounds-tape-0 c = let a = (verdict-told c.args.tape.now (sym c.in-Ok.ensures.checked.fault)).least in omega arith

pub returns-then-c-ne1 : goal.returns-then-c-ne1
returns-then-c-ne1 c =
    let k = c.in-Ok.ensures.checked in
    let v = sym k.fault in
    let n = k.counts in
    length-refused _ _ 5 (λ z. omega arith) (elim c.then-c-ne1.branch [
      | then-c-ne1-via-then-c-ne1 w ↦ tape-many _ v (λ z. w.if-c-ne1.true (n.count ∙ z))
      | then-c-ne1-via-else-c-ne1+then-c w ↦ tape_numbered _ v (sym n.numbered ∙ w.if-c.true)
      | then-c-ne1-via-else-c-ne1+else-c+then-tape-eq14 w ↦ tape-marked _ v (sym n.count ∙ w.if-c-ne1.false) (sym n.numbered ∙ w.if-c.false) w.if-tape-eq14.true
    ])

pub overflow_sub-result : goal.overflow_sub-result
overflow_sub-result c =
    let k = c.in-Ok.ensures in
    (sums-told c.args.quoted c.args.tape.now (λ i. (c.type_inv.tape i).fits) (sym k.checked.fault) _ (k.sums)).fewer

pub overflow_add-result : goal.overflow_add-result
overflow_add-result c =
    let k = c.in-Ok.ensures in
    let r = (sums-told c.args.quoted c.args.tape.now (λ i. (c.type_inv.tape i).fits) (sym k.checked.fault) _ (k.sums)).room in
    record { fits = omega arith }

pub returns : goal.returns
returns c =
    let t = c.args.tape.now in
    let k = c.in-Ok.ensures in
    let v = sym k.checked.fault in
    let n = k.checked.counts in
    let o = sym n.count ∙ c.if-c-ne1.false in
    let m : Bytes t = λ i. (c.type_inv.tape i).fits in
    let e = tape_good t v o (sym n.numbered ∙ c.if-c.false) c.if-tape-eq14.false in
    length_counted _ _ _ m v o e (sums-told c.args.quoted t m v _ (k.sums))
