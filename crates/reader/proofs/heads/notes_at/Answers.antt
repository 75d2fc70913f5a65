-- `heads::notes_at` meets its contract. Assumes nothing.
use native.Mathlib.Omega.{arith}
use mathlib.Core.Path.{refl}
use Rattle.reader.proofs.Laying.{laid_bound}
use Rattle.reader.proofs.HeadSteps.{notes_no, notes-broken, notes-some}
use Rattle.reader.proofs.heads.notes_at.Goals as goal

pub returns-then-not-may_note : goal.returns-then-not-may_note
returns-then-not-may_note c =
    let x = c.args in
    notes_no _ x.text.now x.at x.pos x.buf.now _ refl (c.may_note.ensures.none_here (c.if-not-may_note.true) _) c.requires.0 c.requires.1

pub returns-in_default : goal.returns-in_default
returns-in_default c =
    let x = c.args in
    let v = c.in_default.ensures in
    notes_no _ x.text.now x.at x.pos x.buf.now _ v.1 v.0 c.requires.0 c.requires.1

pub marks_at-requires : goal.marks_at-requires
marks_at-requires c =
    let v = c.in-Some.ensures in
    (v.3, laid_bound v.4)

pub returns-in_err-run : goal.returns-in_err-run
returns-in_err-run c =
    let x = c.args in
    let v = c.in-Some.ensures in
    rw c.from_residual.ensures (notes-broken _ x.text.now x.at _ x.pos v.0 v.1 v.2 v.4 (omega (arith, c.requires.1, c.ahead-s.ensures)) (omega (arith, c.ahead-s.ensures)) c.in_err-run.ensures)

pub overflow_cast-run : goal.overflow_cast-run
overflow_cast-run c =
    let k = c.in_ok-run.ensures in
    omega (arith, k.few)

pub overflow_add-run : goal.overflow_add-run
overflow_add-run c =
    let k = c.in_ok-run.ensures in
    omega (arith, k.few)

pub overflow_add-result : goal.overflow_add-result
overflow_add-result c =
    let k = c.in_ok-run.ensures in
    omega (arith, k.few)

pub returns : goal.returns
returns c =
    let x = c.args in
    let v = c.in-Some.ensures in
    notes-some _ x.text.now x.at _ x.pos v.0 v.1 v.2 v.4 c.ahead-s.ensures c.in_ok-run.ensures c.put2.ensures
