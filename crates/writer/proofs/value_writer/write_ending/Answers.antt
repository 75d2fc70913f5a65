-- `value_writer::write_ending` meets its contract. Assumes nothing.
use borrow.Author.Tests.{eq-eqb, ne_eqb}
use lib.Dec.{eqb}
use Rattle.output.proofs.Laws.{wrote_empty}
use Rattle.writer.proofs.Items.{not_last}
use borrow.Author.Rules.{rules}
use Rattle.writer.proofs.value_writer.write_ending.Goals as goal

pub returns-then-more : goal.returns-then-more
returns-then-more c =
    let a = c.args in
    rw (c.if-more.true, not_last (eqb a.layout 3)) c.write_separator.ensures

pub returns-then-layout-eq3 : goal.returns-then-layout-eq3
returns-then-layout-eq3 c = rw (eq-eqb _ _ c.if-layout-eq3.true, c.if-more.false) (wrote_empty _ _ _ c.bounded.ensures (search rules))

pub returns : goal.returns
returns c = rw (ne_eqb _ _ c.if-layout-eq3.false) c.write_separator-2.ensures
