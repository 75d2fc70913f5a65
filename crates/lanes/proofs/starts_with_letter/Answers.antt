-- `lanes::starts_with_letter` meets its contract. Assumes nothing.
use mathlib.Core.Path.{ap}
use mathlib.Core.Bool.{not}
use Rattle.lanes.proofs.LaneLaws.{first_unmarked}
use Rattle.lanes.proofs.starts_with_letter.Goals as goal

pub returns : goal.returns
returns c = ap not (first_unmarked c.letters.ensures)
