-- `timestamp::minutes_at` meets its contract. Assumes nothing.
use borrow.Author.Tests.{le-leb, lt-leb}
use Rattle.numbers.specs.TimestampRead.{minutes}
use Rattle.text_rules.proofs.ReadingLaws.{refused}
use Rattle.numbers.proofs.timestamp.minutes_at.Goals as goal
use Rattle.numbers.proofs.timestamp.minutes_at.Goals.{then-h-gt23-via-then-h-gt23, then-h-gt23-via-else-h-gt23+then-m-gt59}

pub returns-in_err-h : goal.returns-in_err-h
unfolding minutes
returns-in_err-h c =
    let v = c.in_err-h.ensures in
    rw c.from_residual.ensures (refused (rw v.is))

pub returns-then-h-gt23 : goal.returns-then-h-gt23
unfolding minutes
returns-then-h-gt23 c =
    let v = c.in_ok-h.ensures in
    refused (elim c.then-h-gt23.branch [
      | then-h-gt23-via-then-h-gt23 w ↦ rw (v.is, lt-leb _ _ w.if-h-gt23.true)
      | then-h-gt23-via-else-h-gt23+then-m-gt59 w ↦ rw (v.is, le-leb _ _ w.if-h-gt23.false, lt-leb _ _ w.if-m-gt59.true)
    ])

pub returns : goal.returns
unfolding minutes
returns c =
    let v = c.in_ok-h.ensures in
    record { is = rw (v.is, le-leb _ _ c.if-h-gt23.false, le-leb _ _ c.if-m-gt59.false); place = v.place }
