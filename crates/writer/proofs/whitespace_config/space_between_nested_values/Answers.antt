-- `whitespace_config::space_between_nested_values` meets its contract. Assumes nothing.
use borrow.Author.Tests.{eq-eqb, ne_eqb}
use Rattle.writer.proofs.whitespace_config.space_between_nested_values.Goals as goal

pub returns-then-layout-eq2 : goal.returns-then-layout-eq2
returns-then-layout-eq2 c = rw (eq-eqb _ _ c.if-layout-eq2.true)

pub returns-else-layout-eq2 : goal.returns-else-layout-eq2
returns-else-layout-eq2 c = rw (ne_eqb _ _ c.if-layout-eq2.false)
