-- `writer::write_stream_with` meets its contract: the layout, the tape's own refusals, annotations, then the text and its measure. Assumes nothing.
use mathlib.Core.Path.{sym, ◌∙◌}
use native.Mathlib.Omega.{arith}
use Rattle.output.proofs.Laws.{wrote-length}
use Rattle.tape.proofs.Walking.{verdict-told}
use Rattle.tape.proofs.Verdicts.{fine_walked}
use Rattle.tape.proofs.CodeWalk.{fault_some}
use Rattle.writer.proofs.Verdicts.{layout_bad, tape_bad, tape-noted, tape_good, refused-by, kept_by, laid_by, counted_by, clipped_by}
use Rattle.writer.proofs.writer.write_stream_with.Goals as goal

pub returns-then-layout-gt2 : goal.returns-then-layout-gt2
returns-then-layout-gt2 c =
    let e = layout_bad _ c.args.tape.now c.if-layout-gt2.true in
    record { answer = refused-by _ _ _ 7 (λ z. omega arith) e _; buffer = kept_by _ _ _ 7 (λ z. omega arith) e _ }

pub returns-in-Err : goal.returns-in-Err
returns-in-Err c =
    let f = c.in-Err.ensures.fault in
    let nz = fault_some c.in-Err.fault in
    let e = tape_bad _ c.args.tape.now c.if-layout-gt2.false (λ z. nz (f ∙ z)) ∙ sym f in
    record { answer = c.from.ensures ∙ refused-by _ _ _ _ nz e _; buffer = kept_by _ _ _ _ nz e _ }

pub returns-then-c : goal.returns-then-c
returns-then-c c =
    let k = c.in-Ok.ensures.counts in
    let e = tape-noted _ c.args.tape.now c.if-layout-gt2.false (sym c.in-Ok.ensures.fault) (sym k.noted ∙ c.if-c.true) in
    record { answer = refused-by _ _ _ 5 (λ z. omega arith) e _; buffer = kept_by _ _ _ 5 (λ z. omega arith) e _ }

pub overflow_sub-end : goal.overflow_sub-end
overflow_sub-end c = (verdict-told c.args.tape.now (sym c.in-Ok.ensures.fault)).least

pub write_nodes-n-requires : goal.write_nodes-n-requires
write_nodes-n-requires c =
    let t = c.args.tape.now in
    let e = sym c.in-Ok.ensures.fault in
    let m = (verdict-told t e).least in
    record { from_le_end = omega arith; end_in_bounds = omega arith; pos_le_limit = omega arith; width_bound = omega arith; end_value = fine_walked t e }

pub returns-then-out-n : goal.returns-then-out-n
returns-then-out-n c =
    let k = c.in-Ok.ensures.counts in
    let e = tape_good _ c.args.tape.now c.if-layout-gt2.false (sym c.in-Ok.ensures.fault) (sym k.noted ∙ c.if-c.false) in
    let w = c.write_nodes-n.ensures.text in
    record { answer = clipped_by _ _ _ _ _ _ c.if-layout-gt2.false e w (rw (wrote-length w) at c.if-out-n.true); buffer = laid_by _ _ _ _ _ _ c.if-layout-gt2.false e w }

pub returns : goal.returns
returns c =
    let k = c.in-Ok.ensures.counts in
    let e = tape_good _ c.args.tape.now c.if-layout-gt2.false (sym c.in-Ok.ensures.fault) (sym k.noted ∙ c.if-c.false) in
    let w = c.write_nodes-n.ensures.text in
    record { answer = counted_by _ _ _ _ _ _ c.if-layout-gt2.false e w (rw (wrote-length w) at c.if-out-n.false); buffer = laid_by _ _ _ _ _ _ c.if-layout-gt2.false e w }
