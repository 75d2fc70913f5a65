-- `whitespace_config::space_between_top_level_values` meets its contract. Assumes nothing.
use borrow.Author.Tests.{eq-eqb, ne_eqb}
use Rattle.writer.proofs.whitespace_config.space_between_top_level_values.Goals as goal

pub returns-then-layout-eq0 : goal.returns-then-layout-eq0
returns-then-layout-eq0 c = rw (eq-eqb _ _ c.if-layout-eq0.true)

pub returns-else-layout-eq0 : goal.returns-else-layout-eq0
returns-else-layout-eq0 c = rw (ne_eqb _ _ c.if-layout-eq0.false)
