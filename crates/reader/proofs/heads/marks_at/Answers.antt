-- `heads::marks_at` meets its contract. The invariant says what is left to show. Assumes nothing.
use native.Mathlib.Omega.{arith}
use Prim.Native.Nat.{◌+◌, ◌-◌}
use mathlib.Core.Path.{◌≡◌, refl, ap, ◌∙◌}
use lib.ListN.{length}
use Rattle.reader.proofs.Laying.{laid_bound}
use Rattle.reader.proofs.HeadSteps.{marks_end, marks_over, marks_more}
use Rattle.reader.proofs.heads.marks_at.Goals as goal

pub loop-from-init : goal.loop-from-init
loop-from-init c = (omega arith, omega arith, omega arith, omega arith, refl, λ r b' h. h)

pub returns-then-not-may_note : goal.returns-then-not-may_note
returns-then-not-may_note c =
    let l = c.loop-from in
    l.invariant.5 _ _ (marks_end _ refl (c.may_note.ensures.none_here (c.if-not-may_note.true) _) l.invariant.1 l.invariant.2)

pub shape_of-buf-in_default : goal.shape_of-buf-in_default
shape_of-buf-in_default c =
    let l = c.loop-from in
    let v = c.in_default.ensures in
    ap length v.1 ∙ l.invariant.4

pub returns-in_default : goal.returns-in_default
returns-in_default c =
    let l = c.loop-from in
    let v = c.in_default.ensures in
    l.invariant.5 _ _ (marks_end _ v.1 v.0 l.invariant.1 l.invariant.2)

pub shape_of-buf-then-count-eq15 : goal.shape_of-buf-then-count-eq15
shape_of-buf-then-count-eq15 c =
    let l = c.loop-from in
    let v = c.in-Some.ensures in
    v.4.kept.as_long ∙ l.invariant.4

pub returns-then-count-eq15 : goal.returns-then-count-eq15
returns-then-count-eq15 c =
    let l = c.loop-from in
    let v = c.in-Some.ensures in
    l.invariant.5 _ _ (marks_over _ (omega (arith, c.if-count-eq15.true)) v.1 v.4.kept)

pub loop-from-smaller : goal.loop-from-smaller
loop-from-smaller c =
    let v = c.in-Some.ensures in
    omega (arith, v.2, v.3)

pub loop-from-preserved : goal.loop-from-preserved
loop-from-preserved c =
    let l = c.loop-from in
    let v = c.in-Some.ensures in
    let n : l.count ≡ 15 → ⊥ = c.if-count-eq15.false in
    (omega (arith, v.2), v.3, laid_bound v.4, omega (arith, n), v.4.kept.as_long ∙ l.invariant.4, λ r b' h. l.invariant.5 r b' (marks_more _ _ (15 - (l.count + 1)) v.0 r (omega (arith, n)) v.1 v.2 l.invariant.2 v.4 h))
