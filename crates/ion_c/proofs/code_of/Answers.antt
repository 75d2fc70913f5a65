-- `ion_c::code_of` meets its contract. Assumes nothing.
use mir.Syntax.{w64}
use mir.ValLaws.{to_z_pos}
use Rattle.ion_c.proofs.code_of.Goals as goal

pub overflow_cast-result : goal.overflow_cast-result
overflow_cast-result c = let small = rw c.in-Count.is at c.requires in record { sfits = small }

pub returns-in-Count : goal.returns-in-Count
returns-in-Count c = let small = rw c.in-Count.is at c.requires in rw c.in-Count.is (to_z_pos w64 _ small)

pub returns-in-End : goal.returns-in-End
returns-in-End c = rw c.in-End.is

pub returns-in-Misfit : goal.returns-in-Misfit
returns-in-Misfit c = rw c.in-Misfit.is

pub returns-in-BadNode : goal.returns-in-BadNode
returns-in-BadNode c = rw c.in-BadNode.is

pub returns-in-TooDeep : goal.returns-in-TooDeep
returns-in-TooDeep c = rw c.in-TooDeep.is

pub returns-in-FiniteFloat : goal.returns-in-FiniteFloat
returns-in-FiniteFloat c = rw c.in-FiniteFloat.is

pub returns-in-Unsuited : goal.returns-in-Unsuited
returns-in-Unsuited c = rw c.in-Unsuited.is

pub returns-in-TextTooLong : goal.returns-in-TextTooLong
returns-in-TextTooLong c = rw c.in-TextTooLong.is

pub returns-in-NoLayout : goal.returns-in-NoLayout
returns-in-NoLayout c = rw c.in-NoLayout.is

pub returns-in-OutsideGrammar : goal.returns-in-OutsideGrammar
returns-in-OutsideGrammar c = rw c.in-OutsideGrammar.is

pub returns-in-TapeTooLong : goal.returns-in-TapeTooLong
returns-in-TapeTooLong c = rw c.in-TapeTooLong.is

pub returns-in-PastText : goal.returns-in-PastText
returns-in-PastText c = rw c.in-PastText.is

pub returns-in-OutsideOldGrammar : goal.returns-in-OutsideOldGrammar
returns-in-OutsideOldGrammar c = rw c.in-OutsideOldGrammar.is

pub returns-in-OutputTooLong : goal.returns-in-OutputTooLong
returns-in-OutputTooLong c = rw c.in-OutputTooLong.is
