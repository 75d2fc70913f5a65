-- `ion_c::index_code` meets its contract. Assumes nothing.
use mir.Syntax.{w64}
use mir.ValLaws.{to_z_pos}
use Rattle.ion_c.proofs.index_code.Goals as goal

pub overflow_cast-result : goal.overflow_cast-result
overflow_cast-result c = let small = rw c.in-Ok.is at c.requires in record { sfits = small }

pub returns-in-Ok : goal.returns-in-Ok
returns-in-Ok c = let small = rw c.in-Ok.is at c.requires in rw c.in-Ok.is (to_z_pos w64 _ small)
