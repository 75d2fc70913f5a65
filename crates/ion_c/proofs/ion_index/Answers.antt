-- `ion_c::ion_index` meets its contract: a struct has fewer fields than a slice may have entries. Assumes nothing.
use Rattle.std.proofs.Common.{rules}
use Rattle.ion_c.proofs.Small.{indexed-small}
use Rattle.ion_c.proofs.ion_index.Goals as goal

pub index_code-requires : goal.index_code-requires
index_code-requires c = indexed-small _ _ _ _ _ c.index-i.ensures (search rules)
