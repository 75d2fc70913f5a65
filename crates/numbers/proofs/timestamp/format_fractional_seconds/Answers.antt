-- `timestamp::format_fractional_seconds` meets its contract. Assumes nothing.
use borrow.Author.Tests.{eq-eqb, ne_eqb}
use Rattle.output.proofs.Laws.{wrote_empty, wrote_then}
use Rattle.numbers.specs.Timestamp.{fractional_seconds}
use borrow.Author.Rules.{rules}
use Rattle.numbers.proofs.timestamp.format_fractional_seconds.Goals as goal

pub returns-then-digits-eq0 : goal.returns-then-digits-eq0
unfolding fractional_seconds
returns-then-digits-eq0 c = rw (eq-eqb _ _ c.if-digits-eq0.true) (wrote_empty _ _ _ c.bounded.ensures (search rules))

pub returns : goal.returns
unfolding fractional_seconds
returns c = rw (ne_eqb _ _ c.if-digits-eq0.false) (wrote_then c.put-p.ensures c.put_padded.ensures)
