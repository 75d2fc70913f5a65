-- The proof of the cycle of calls {sequence, value}. With n bytes of text left, `value` measures 2n and `sequence` 2n + 1: `value` passes the
-- bracket before it calls `sequence`, and `sequence` calls `value` at the same place or behind it.
-- The invariant of the loop is what is left to show: whatever holds of the rest of the sequence from the present place gives what the contract says of the whole.
-- Assumes nothing.
use mathlib.Core.Path.{refl, sym, ◌∙◌}
use native.Mathlib.Nat.{le_refl}
use native.Mathlib.Omega.{arith}
use Rattle.reader.proofs.Laying.{laid_bound}
use Rattle.reader.proofs.Cycle.{opens-inside, value-at_headless, value-at-head, body_at_deep, body_at-scalar, body_at-broken, body_at_nest, run_end, run_no_child, run_no_gap, run_more}
use Rattle.reader.proofs.values.+sequence_value.Goals as goal

pub sequence-loop-end-init : goal.sequence-loop-end-init
sequence-loop-end-init t c =
    (omega arith, omega arith, omega arith, omega arith, refl, λ r b' h. h)

pub sequence-skip_blanks-first-requires : goal.sequence-skip_blanks-first-requires
sequence-skip_blanks-first-requires t c =
    omega arith

pub sequence-close_at-requires : goal.sequence-close_at-requires
sequence-close_at-requires t c =
    omega arith

pub sequence-shape_of-buf-in-Some : goal.sequence-shape_of-buf-in-Some
sequence-shape_of-buf-in-Some t c =
    c.loop-end.invariant.4

pub sequence-returns-in-Some : goal.sequence-returns-in-Some
sequence-returns-in-Some t c =
    let l = c.loop-end in
    let s = c.skip_blanks-first in
    let e = rw c.in-Some.is at c.close_at.ensures in
    l.invariant.5 _ _ (run_end _ s.ensures l.invariant.3 e.0 e.1 e.2)

pub sequence-value-requires : goal.sequence-value-requires
sequence-value-requires t c =
    omega arith

pub sequence-shape_of-buf-in_err-child : goal.sequence-shape_of-buf-in_err-child
sequence-shape_of-buf-in_err-child t c =
    c.value.auto.buf ∙ c.loop-end.invariant.4

pub sequence-returns-in_err-child : goal.sequence-returns-in_err-child
sequence-returns-in_err-child t c =
    let l = c.loop-end in
    let s = c.skip_blanks-first in
    let e = rw c.in_default.is at c.close_at.ensures in
    let v = c.value in
    rw c.from_residual.ensures (l.invariant.5 _ _ (run_no_child _ s.ensures e c.in_err-child.ensures))

pub sequence-gap_at-requires : goal.sequence-gap_at-requires
sequence-gap_at-requires t c =
    let v = c.in_ok-child.ensures in
    (v.told _ (le_refl _)).3

pub sequence-shape_of-buf-in_err-at : goal.sequence-shape_of-buf-in_err-at
sequence-shape_of-buf-in_err-at t c =
    c.value.auto.buf ∙ c.loop-end.invariant.4

pub sequence-returns-in_err-at : goal.sequence-returns-in_err-at
sequence-returns-in_err-at t c =
    let l = c.loop-end in
    let s = c.skip_blanks-first in
    let e = rw c.in_default.is at c.close_at.ensures in
    let v = c.in_ok-child.ensures in
    let g = c.in_err-at.ensures in
    rw c.from_residual-in_err-at.ensures (l.invariant.5 _ _ (run_no_gap _ s.ensures e v g))

pub sequence-overflow_add-count : goal.sequence-overflow_add-count
sequence-overflow_add-count t c =
    omega arith

pub sequence-loop-end-smaller : goal.sequence-loop-end-smaller
sequence-loop-end-smaller t c =
    let v = c.in_ok-child.ensures in
    let g = c.in_ok-at.ensures in
    omega (arith, (v.told _ (le_refl _)).2, c.skip_blanks-first.ensures.ahead)

pub sequence-loop-end-preserved : goal.sequence-loop-end-preserved
sequence-loop-end-preserved t c =
    let l = c.loop-end in
    let s = c.skip_blanks-first in
    let e = rw c.in_default.is at c.close_at.ensures in
    let v = c.in_ok-child.ensures in
    let g = c.in_ok-at.ensures in
    let w = v.told _ (le_refl _) in (
      omega (arith, w.2),
      g.2,
      omega (arith, w.2),
      laid_bound w.4,
      w.4.kept.as_long ∙ l.invariant.4,
      λ r b' h. l.invariant.5 r b' (run_more _ s.ensures e r l.invariant.3 v g.0 g.1 g.2 h),
    )

pub value-head_at-requires : goal.value-head_at-requires
value-head_at-requires t c =
    c.requires

pub value-shape_of-buf-in_err-head : goal.value-shape_of-buf-in_err-head
value-shape_of-buf-in_err-head t c =
    c.head_at.auto.buf

pub value-returns-in_err-head : goal.value-returns-in_err-head
value-returns-in_err-head t c =
    let h = c.in_err-head.ensures in
    rw c.from_residual.ensures (value-at_headless _ h.0 h.1)

pub value-opener_at-requires : goal.value-opener_at-requires
value-opener_at-requires t c =
    let h = c.in_ok-head.ensures in
    h.4

pub value-scalar_at-requires : goal.value-scalar_at-requires
value-scalar_at-requires t c =
    let h = c.in_ok-head.ensures in
    (h.4, laid_bound h.5)

pub value-shape_of-buf-in_default : goal.value-shape_of-buf-in_default
value-shape_of-buf-in_default t c =
    c.scalar_at.auto.buf ∙ c.head_at.auto.buf

pub value-returns-in_default : goal.value-returns-in_default
value-returns-in_default t c =
    let h = c.in_ok-head.ensures in
    value-at-head _ _ c.requires.1 h c.free_of-m.ensures (body_at-scalar _ _ h.4 (sym (rw c.in_default.is at c.opener_at.ensures)) c.scalar_at.ensures)

pub value-shape_of-buf-then-left-eq0 : goal.value-shape_of-buf-then-left-eq0
value-shape_of-buf-then-left-eq0 t c =
    c.head_at.auto.buf

pub value-returns-then-left-eq0 : goal.value-returns-then-left-eq0
value-returns-then-left-eq0 t c =
    let h = c.in_ok-head.ensures in
    let o = sym (rw c.in-Some.is at c.opener_at.ensures) in
    value-at-head _ _ c.requires.1 h refl (body_at_deep _ h.4 o c.if-left-eq0.true)

pub value-ahead-s-requires : goal.value-ahead-s-requires
value-ahead-s-requires t c =
    tt

pub value-overflow_add-head : goal.value-overflow_add-head
value-overflow_add-head t c =
    let h = c.in_ok-head.ensures in
    let o = sym (rw c.in-Some.is at c.opener_at.ensures) in
    omega (arith, opens-inside _ _ _ h.4 o, c.well_formed.0.0)

pub value-overflow_sub-left : goal.value-overflow_sub-left
value-overflow_sub-left t c =
    omega (arith, c.if-left-eq0.false)

pub value-sequence-requires : goal.value-sequence-requires
value-sequence-requires t c =
    let h = c.in_ok-head.ensures in
    let o = sym (rw c.in-Some.is at c.opener_at.ensures) in
    omega (arith, opens-inside _ _ _ h.4 o, c.decreases, h.3, h.4, c.ahead-s.ensures)

pub value-shape_of-buf-in_err-run : goal.value-shape_of-buf-in_err-run
value-shape_of-buf-in_err-run t c =
    c.sequence.auto.buf ∙ c.head_at.auto.buf

pub value-returns-in_err-run : goal.value-returns-in_err-run
value-returns-in_err-run t c =
    let h = c.in_ok-head.ensures in
    let o = sym (rw c.in-Some.is at c.opener_at.ensures) in
    rw c.from_residual-in_err-run.ensures (value-at-head _ _ c.requires.1 h refl (body_at-broken _ h.4 o c.if-left-eq0.false (omega (arith, laid_bound h.5, c.ahead-s.ensures)) c.in_err-run.ensures))

pub value-overflow_sub-run : goal.value-overflow_sub-run
value-overflow_sub-run t c =
    let r = c.in_ok-run.ensures in
    omega (arith, (r.told _ (le_refl _)).5.count, c.ahead-s.ensures)

pub value-shape_of-buf : goal.value-shape_of-buf
value-shape_of-buf t c =
    c.put_header.auto.buf ∙ c.sequence.auto.buf ∙ c.head_at.auto.buf

pub value-returns : goal.value-returns
value-returns t c =
    let h = c.in_ok-head.ensures in
    let o = sym (rw c.in-Some.is at c.opener_at.ensures) in
    value-at-head _ _ c.requires.1 h refl (body_at_nest _ h.4 o c.if-left-eq0.false c.ahead-s.ensures c.in_ok-run.ensures (rw c.tag_of.ensures at c.put_header.ensures))
