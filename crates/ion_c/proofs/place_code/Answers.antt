-- `ion_c::place_code` meets its contract. Assumes nothing.
use mir.Syntax.{w64}
use mir.ValLaws.{to_z_pos}
use Rattle.ion_c.proofs.place_code.Goals as goal

pub overflow_cast-result : goal.overflow_cast-result
overflow_cast-result c = let near = rw c.in-Some.is at c.requires in record { sfits = near }

pub returns-in-None : goal.returns-in-None
returns-in-None c = rw c.in-None.is

pub returns-in-Some : goal.returns-in-Some
returns-in-Some c = let near = rw c.in-Some.is at c.requires in rw c.in-Some.is (to_z_pos w64 _ near)
