-- `field_index::search::narrow` meets its contract. Assumes nothing.
use Rattle.std.proofs.Common.{sym, ◌∙◌}
use Rattle.field_index.specs.Lookup.{sought}
use Rattle.field_index.proofs.search.narrow.Goals as goal

pub returns-in-Less : goal.returns-in-Less
unfolding sought
returns-in-Less c = rw (sym c.compare_names.ensures ∙ c.in-Less.is) c.halved.ensures

pub returns-in-Equal : goal.returns-in-Equal
unfolding sought
returns-in-Equal c = rw (sym c.compare_names.ensures ∙ c.in-Equal.is) c.halved-in-Equal.ensures

pub returns-in-Greater : goal.returns-in-Greater
unfolding sought
returns-in-Greater c = rw (sym c.compare_names.ensures ∙ c.in-Greater.is) c.halved-in-Greater.ensures
