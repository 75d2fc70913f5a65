-- `scalars::braces_at` meets its contract. Assumes nothing.
use native.Mathlib.Omega.{arith}
use Rattle.reader.proofs.ScalarSteps.{braces-clob, braces-other, braces-end}
use Rattle.reader.proofs.scalars.braces_at.Goals as goal
use Rattle.reader.proofs.scalars.braces_at.Goals.{else-text-at-gt2-via-then-text-at-gt2+else-text-at-eq34, else-text-at-gt2-via-else-text-at-gt2}

pub returns-then-text-at-eq34 : goal.returns-then-text-at-eq34
returns-then-text-at-eq34 c =
    let x = c.args in
    let l = c.if-text-at-gt2.true in
    rw (braces-clob x.text.now x.at (omega arith) c.if-text-at-eq34.true) c.clob_at.ensures

pub returns : goal.returns
returns c =
    let x = c.args in
    elim c.else-text-at-gt2.branch [
      | else-text-at-gt2-via-then-text-at-gt2+else-text-at-eq34 w ↦ (let l = w.if-text-at-gt2.true in rw (braces-other x.text.now x.at (omega arith) w.if-text-at-eq34.false) c.blob_at.ensures)
      | else-text-at-gt2-via-else-text-at-gt2 w ↦ (let l = w.if-text-at-gt2.false in rw (braces-end x.text.now x.at (omega arith)) c.blob_at.ensures)
    ]
