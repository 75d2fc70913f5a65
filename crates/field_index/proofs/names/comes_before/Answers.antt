-- `field_index::names::comes_before` meets its contract. Assumes nothing.
use Rattle.std.proofs.Common.{ap, ◌∙◌}
use Rattle.std.specs.Ordering.{is_lt}
use Rattle.field_index.specs.Names.{before}
use Rattle.field_index.proofs.names.comes_before.Goals as goal

pub returns : goal.returns
unfolding before
returns c = c.is_lt.ensures ∙ ap is_lt c.compare.ensures
