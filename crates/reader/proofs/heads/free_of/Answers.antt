-- `heads::free_of` meets its contract. Assumes nothing.
use Rattle.reader.proofs.heads.free_of.Goals as goal

pub returns-in-Top : goal.returns-in-Top
returns-in-Top c = rw c.in-Top.is
