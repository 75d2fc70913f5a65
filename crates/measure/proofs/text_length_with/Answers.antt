-- `text_length_with` meets its contract: the layout, the tape's own refusals, annotations, then the sums, which are the text's length. Assumes nothing.
use mathlib.Core.Path.{refl, sym, ◌∙◌}
use native.Mathlib.Omega.{arith}
use Rattle.tape.proofs.CodeWalk.{fault_some}
use Rattle.writer.proofs.Verdicts.{layout_bad, tape_bad, tape-noted, tape_good}
use Rattle.measure.proofs.Verdicts.{sums-told, refused-by, counted_plain, counted_pretty}
use Rattle.measure.proofs.text_length_with.Goals as goal

-- ---- the needs
pub returns-then-layout-gt2 : goal.returns-then-layout-gt2
returns-then-layout-gt2 c = refused-by _ _ _ 7 (λ z. omega arith) (layout_bad _ _ c.if-layout-gt2.true)

pub measure_tape-requires : goal.measure_tape-requires
measure_tape-requires c = refl

pub returns-in-Err : goal.returns-in-Err
returns-in-Err c =
    let f = c.in-Err.ensures.checked.fault in
    let nz = fault_some c.in-Err.fault in
    c.from.ensures ∙ refused-by _ _ _ _ nz (tape_bad _ _ c.if-layout-gt2.false (λ z. nz (f ∙ z)) ∙ sym f)

pub returns-then-c : goal.returns-then-c
returns-then-c c =
    let k = c.in-Ok.ensures.checked.counts in
    refused-by _ _ _ 5 (λ z. omega arith) (tape-noted _ _ c.if-layout-gt2.false (sym c.in-Ok.ensures.checked.fault) (sym k.noted ∙ c.if-c.true))

pub overflow_add-n : goal.overflow_add-n
overflow_add-n c = let r = (sums-told c.args.quoted c.args.tape.now (λ i. (c.type_inv.tape i).fits) (sym c.in-Ok.ensures.checked.fault) _ (c.in-Ok.ensures.sums)).room in record { fits = omega arith }

pub overflow_add-result : goal.overflow_add-result
overflow_add-result c = let r = (sums-told c.args.quoted c.args.tape.now (λ i. (c.type_inv.tape i).fits) (sym c.in-Ok.ensures.checked.fault) _ (c.in-Ok.ensures.sums)).room in record { fits = omega arith }

pub returns-then-layout-eq2 : goal.returns-then-layout-eq2
returns-then-layout-eq2 c = counted_pretty _ _ _ _ (tape_good _ _ c.if-layout-gt2.false (sym c.in-Ok.ensures.checked.fault) (sym (c.in-Ok.ensures.checked.counts).noted ∙ c.if-c.false)) (sym (c.in-Ok.ensures.checked.counts).noted ∙ c.if-c.false) (sums-told c.args.quoted c.args.tape.now (λ i. (c.type_inv.tape i).fits) (sym c.in-Ok.ensures.checked.fault) _ (c.in-Ok.ensures.sums)) c.if-layout-eq2.true

pub returns : goal.returns
returns c = counted_plain _ _ _ _ (tape_good _ _ c.if-layout-gt2.false (sym c.in-Ok.ensures.checked.fault) (sym (c.in-Ok.ensures.checked.counts).noted ∙ c.if-c.false)) (sym (c.in-Ok.ensures.checked.counts).noted ∙ c.if-c.false) (sums-told c.args.quoted c.args.tape.now (λ i. (c.type_inv.tape i).fits) (sym c.in-Ok.ensures.checked.fault) _ (c.in-Ok.ensures.sums)) c.if-layout-eq2.false
