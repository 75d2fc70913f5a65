-- `timestamp::fraction_at` meets its contract. Assumes nothing.
use Prim.Native.Nat.{◌≤◌, ◌<◌}
use native.Mathlib.Omega.{arith}
use lib.ListN.{length, drop}
use borrow.Author.Tests.{le-leb, lt-leb}
use Rattle.text_rules.specs.Digits.{run}
use Rattle.numbers.specs.TimestampRead.{fraction_of}
use Rattle.numbers.proofs.TimestampPlaces.{run_nine, run_long, taken_off}
use Rattle.text_rules.proofs.ReadingLaws.{reads_from, refused}
use Rattle.numbers.proofs.timestamp.fraction_at.Goals as goal
use Rattle.numbers.proofs.timestamp.fraction_at.Goals.{then-k-eq0-via-then-k-eq0, then-k-eq0-via-else-k-eq0+then-k-gt9}

pub returns-in_err-f : goal.returns-in_err-f
unfolding fraction_of
returns-in_err-f c =
    let x = c.args in
    let ds = run (drop x.at x.text.now) in
    let v = c.in_err-f.ensures in
    let l : 9 < length ds = run_long _ v in
    rw c.from_residual.ensures (refused (rw (le-leb 1 (length ds) (omega arith), lt-leb (length ds) 9 l)))

pub overflow_sub-k : goal.overflow_sub-k
overflow_sub-k c =
    let v = c.in_ok-f.ensures in
    omega (arith, v.2)

pub returns-then-k-eq0 : goal.returns-then-k-eq0
unfolding fraction_of
returns-then-k-eq0 c =
    let x = c.args in
    let ds = run (drop x.at x.text.now) in
    let v = c.in_ok-f.ensures in
    refused (elim c.then-k-eq0.branch [
      | then-k-eq0-via-then-k-eq0 w ↦ rw (lt-leb 1 (length ds) (omega (arith, v.2, w.if-k-eq0.true)))
      | then-k-eq0-via-else-k-eq0+then-k-gt9 w ↦ rw (le-leb 1 (length ds) (omega (arith, v.2, w.if-k-eq0.false)), lt-leb (length ds) 9 (omega (arith, v.2, w.if-k-gt9.true)))
    ])

pub overflow_cast-f : goal.overflow_cast-f
overflow_cast-f c =
    let x = c.args in
    let t = drop x.at x.text.now in
    let v = c.in_ok-f.ensures in
    let nine : length (run t) ≤ 9 = omega (arith, v.2, c.if-k-gt9.false) in
    record { fits = omega (arith, v.0, run_nine t nine) }

pub offset_at-requires : goal.offset_at-requires
offset_at-requires c =
    let v = c.in_ok-f.ensures in
    v.3

pub returns : goal.returns
unfolding fraction_of
returns c =
    let x = c.args in
    let ds = run (drop x.at x.text.now) in
    let v = c.in_ok-f.ensures in
    let one : 1 ≤ length ds = omega (arith, v.2, c.if-k-eq0.false) in
    let nine : length ds ≤ 9 = omega (arith, v.2, c.if-k-gt9.false) in
    let w = rw c.with_time.ensures at c.offset_at.ensures in
    rw (le-leb 1 (length ds) one, le-leb (length ds) 9 nine, taken_off _ _ _ v.2, v.0, v.1) (reads_from w (omega (arith, v.2)))
