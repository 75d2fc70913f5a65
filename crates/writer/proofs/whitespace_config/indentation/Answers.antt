-- `whitespace_config::indentation` meets its contract. Assumes nothing.
use borrow.Author.Tests.{eq-eqb, ne_eqb}
use Rattle.writer.specs.Text.{deeper}
use Rattle.writer.proofs.whitespace_config.indentation.Goals as goal

pub returns-then-layout-eq2 : goal.returns-then-layout-eq2
unfolding deeper
returns-then-layout-eq2 c = rw (eq-eqb _ _ c.if-layout-eq2.true)

pub returns-else-layout-eq2 : goal.returns-else-layout-eq2
unfolding deeper
returns-else-layout-eq2 c = rw (ne_eqb _ _ c.if-layout-eq2.false)
