-- `floats::whole::behind_e` meets its contract. Assumes nothing.
use native.Mathlib.Omega.{arith}
use Prim.Native.Nat.{◌≤◌, ◌<◌}
use borrow.Author.Tests.{ne_eqb}
use lib.ListN.{length, drop}
use Rattle.text_rules.specs.Digits.{run}
use Rattle.text_rules.proofs.DigitLaws.{whole-none, whole_one}
use Rattle.text_rules.proofs.ReadingLaws.{refused, reads_from}
use Rattle.numbers.proofs.NumeralLaws.{whole-at}
use Rattle.floats.specs.Whole.{behind_e}
use Rattle.floats.proofs.WholeLaws.{e_far}
use Rattle.floats.proofs.whole.behind_e.Goals as goal
use Rattle.floats.proofs.whole.behind_e.Goals.{else-k-gt1-via-then-k-gt1+else-text-at-eq48, else-k-gt1-via-else-k-gt1}

pub overflow_sub-k : goal.overflow_sub-k
overflow_sub-k c =
    let x = c.args in
    let t = x.text.now in
    let v = c.in_ok-e.ensures in
    omega (arith, v.2)

pub returns-then-k-eq0 : goal.returns-then-k-eq0
unfolding behind_e
returns-then-k-eq0 c =
    let x = c.args in
    let v = c.in_ok-e.ensures in
    let es = run (drop x.at x.text.now) in
    refused (rw (whole-none es (omega (arith, v.2, c.if-k-eq0.true))))

pub returns-then-text-at-eq48 : goal.returns-then-text-at-eq48
unfolding behind_e
returns-then-text-at-eq48 c =
    let x = c.args in
    let t = x.text.now in
    let v = c.in_ok-e.ensures in
    let two : 2 ≤ length (run (drop x.at t)) = omega (arith, v.2, c.if-k-gt1.true) in
    let lt : x.at < length t = omega (arith, v.2, v.3) in
    refused (rw (whole-at t x.at lt two, c.if-text-at-eq48.true))

pub bounds-text-at : goal.bounds-text-at
bounds-text-at c =
    let v = c.in_ok-e.ensures in
    omega (arith, v.2, v.3, c.if-k-gt1.true)

pub returns : goal.returns
unfolding behind_e
returns c =
    let x = c.args in
    let t = x.text.now in
    let v = c.in_ok-e.ensures in
    let es = run (drop x.at t) in
    elim c.else-k-gt1.branch [
      | else-k-gt1-via-then-k-gt1+else-text-at-eq48 w ↦ (
          let two : 2 ≤ length es = omega (arith, v.2, w.if-k-gt1.true) in
          let lt : x.at < length t = omega (arith, v.2, v.3) in
          rw (whole-at t x.at lt two, ne_eqb _ _ w.if-text-at-eq48.false, v.0, v.1) (reads_from (c.scaled_of.ensures t v.3) (omega (arith, v.2))))
      | else-k-gt1-via-else-k-gt1 w ↦ (
          let one = whole_one es (omega (arith, v.2, c.if-k-eq0.false, w.if-k-gt1.false)) in
          rw (one, v.0, v.1) (reads_from (c.scaled_of.ensures t v.3) (omega (arith, v.2))))
    ]

pub returns-in_err-e : goal.returns-in_err-e
returns-in_err-e c =
    let v = c.in_err-e.ensures in
    rw c.from_residual.ensures (refused (e_far _ _ _ v))
