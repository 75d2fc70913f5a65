-- `write_tree_with` meets its contract: the tape's own refusals, one node that is no marker and has no identifier but 0, then the text and its measure.
-- Assumes nothing.
use mathlib.Core.Path.{◌≡◌, sym, ◌∙◌}
use native.Mathlib.Omega.{arith}
use Rattle.output.proofs.Laws.{wrote-length}
use Rattle.tape.proofs.Walking.{verdict-told}
use Rattle.tape.specs.Fine.{Bytes}
use Rattle.tape.proofs.Verdicts.{fine_walked}
use Rattle.tape.proofs.CodeWalk.{fault_some}
use Rattle.tree.specs.Outcome.{refusal}
use Rattle.tree.proofs.Verdicts.{tape_bad, tape-many, tape_numbered, tape-marked, tape_good, refused-by, kept_by, laid_by, counted_by, clipped_by}
use Rattle.tree.proofs.write_tree_with.Goals as goal
use Rattle.tree.proofs.write_tree_with.Goals.{then-c-ne1-via-then-c-ne1, then-c-ne1-via-else-c-ne1+then-c, then-c-ne1-via-else-c-ne1+else-c+then-tape-eq14}

pub returns-in-Err : goal.returns-in-Err
returns-in-Err c =
    let f = c.in-Err.ensures.fault in
    let nz = fault_some c.in-Err.fault in
    let e = tape_bad c.args.tape.now (λ z. nz (f ∙ z)) ∙ sym f in
    record { answer = c.from.ensures ∙ refused-by _ _ _ nz e _; buffer = kept_by _ _ _ nz e _ }

pub bounds-tape-0 : goal.bounds-tape-0
bounds-tape-0 c = let a = (verdict-told c.args.tape.now (sym c.in-Ok.ensures.fault)).least in omega arith

pub returns-then-c-ne1 : goal.returns-then-c-ne1
returns-then-c-ne1 c =
    let t = c.args.tape.now in
    let k = c.in-Ok.ensures in
    let v = sym k.fault in
    let n = k.counts in
    let e : refusal t ≡ 5 = elim c.then-c-ne1.branch [
      | then-c-ne1-via-then-c-ne1 w ↦ tape-many t v (λ z. w.if-c-ne1.true (n.count ∙ z))
      | then-c-ne1-via-else-c-ne1+then-c w ↦ tape_numbered t v (sym n.numbered ∙ w.if-c.true)
      | then-c-ne1-via-else-c-ne1+else-c+then-tape-eq14 w ↦ tape-marked t v (sym n.count ∙ w.if-c-ne1.false) (sym n.numbered ∙ w.if-c.false) w.if-tape-eq14.true
    ] in
    record { answer = refused-by _ _ 5 (λ z. omega arith) e _; buffer = kept_by _ _ 5 (λ z. omega arith) e _ }

pub overflow_sub-end : goal.overflow_sub-end
overflow_sub-end c = (verdict-told c.args.tape.now (sym c.in-Ok.ensures.fault)).least

pub write_nodes-n-requires : goal.write_nodes-n-requires
write_nodes-n-requires c =
    let t = c.args.tape.now in
    let e = sym c.in-Ok.ensures.fault in
    let m = (verdict-told t e).least in
    record { from_le_end = omega arith; end_in_bounds = omega arith; pos_le_limit = omega arith; width_bound = omega arith; end_value = fine_walked t e }

pub returns-then-out-n : goal.returns-then-out-n
returns-then-out-n c =
    let t = c.args.tape.now in
    let k = c.in-Ok.ensures in
    let v = sym k.fault in
    let n = k.counts in
    let e = tape_good t v (sym n.count ∙ c.if-c-ne1.false) (sym n.numbered ∙ c.if-c.false) c.if-tape-eq14.false in
    let m : Bytes t = λ i. (c.type_inv.tape i).fits in
    let o = sym n.count ∙ c.if-c-ne1.false in
    let w = c.write_nodes-n.ensures.text in
    record { answer = clipped_by _ _ _ _ _ m v o e w (rw (wrote-length w) at c.if-out-n.true); buffer = laid_by _ _ _ _ _ m v o e w }

pub returns : goal.returns
returns c =
    let t = c.args.tape.now in
    let k = c.in-Ok.ensures in
    let v = sym k.fault in
    let n = k.counts in
    let e = tape_good t v (sym n.count ∙ c.if-c-ne1.false) (sym n.numbered ∙ c.if-c.false) c.if-tape-eq14.false in
    let m : Bytes t = λ i. (c.type_inv.tape i).fits in
    let o = sym n.count ∙ c.if-c-ne1.false in
    let w = c.write_nodes-n.ensures.text in
    record { answer = counted_by _ _ _ _ _ m v o e w (rw (wrote-length w) at c.if-out-n.false); buffer = laid_by _ _ _ _ _ m v o e w }
