-- `numbers::numeral::power_at` meets its contract. Assumes nothing.
use native.Mathlib.Omega.{arith}
use Prim.Native.Nat.{◌≤◌}
use borrow.Author.Tests.{le-leb, lt-leb}
use lib.ListN.{length, drop}
use Rattle.text_rules.specs.Digits.{run}
use Rattle.numbers.specs.Numeral.{power_of}
use Rattle.numbers.proofs.NumeralLaws.{power_long}
use Rattle.text_rules.proofs.ReadingLaws.{refused, reads_from}
use Rattle.numbers.proofs.numeral.power_at.Goals as goal
use Rattle.numbers.proofs.numeral.power_at.Goals.{then-k-eq0-via-then-k-eq0, then-k-eq0-via-else-k-eq0+then-k-gt10}

pub overflow_sub-k : goal.overflow_sub-k
overflow_sub-k c =
    let x = c.args in
    let t = x.text.now in
    let v = c.in_ok-e.ensures in
    omega (arith, v.2)

pub returns-then-k-eq0 : goal.returns-then-k-eq0
unfolding power_of
returns-then-k-eq0 c =
    let x = c.args in
    let es = run (drop x.at x.text.now) in
    let v = c.in_ok-e.ensures in
    refused (elim c.then-k-eq0.branch [
      | then-k-eq0-via-then-k-eq0 w ↦ rw (lt-leb 1 (length es) (omega (arith, v.2, w.if-k-eq0.true)))
      | then-k-eq0-via-else-k-eq0+then-k-gt10 w ↦ rw (le-leb 1 (length es) (omega (arith, v.2, w.if-k-eq0.false)), lt-leb (length es) 10 (omega (arith, v.2, w.if-k-gt10.true)))
    ])

pub returns : goal.returns
unfolding power_of
returns c =
    let x = c.args in
    let t = x.text.now in
    let v = c.in_ok-e.ensures in
    let es = run (drop x.at t) in
    let one : 1 ≤ length es = omega (arith, v.2, c.if-k-eq0.false) in
    let ten : length es ≤ 10 = omega (arith, v.2, c.if-k-gt10.false) in
    rw (le-leb 1 (length es) one, le-leb (length es) 10 ten, v.0, v.1) (reads_from (c.decimal_of.ensures t v.3) (omega (arith, v.2)))

pub returns-in_err-e : goal.returns-in_err-e
returns-in_err-e c =
    let x = c.args in
    let t = x.text.now in
    let v = c.in_err-e.ensures in
    rw c.from_residual.ensures (refused (power_long _ _ _ _ _ _ v))
