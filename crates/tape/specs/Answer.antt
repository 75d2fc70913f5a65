-- The answers of the public functions, and the documents' number for each. Assumes nothing: these are definitions.
use Rattle.std.specs.Prelude.{ℕ, Result, Ok, Err}
use Rattle.tape.specs.declared.answer.Answer.{Answer}
use Rattle.tape.specs.declared.answer.Answer.TheVariants as A
use Rattle.tape.specs.declared.answer.Fault.{Fault}
use Rattle.tape.specs.declared.answer.Fault.TheVariants as F

-- the count of finished bytes, the end mark of line reading, or one refusal from the table
pub data Outcome : Type 0 where
  counted : ℕ → Outcome
  ended : Outcome
  refused : ℕ → Outcome

abbrev pub outcome : Answer → Outcome
outcome (A.Count n) = counted n
outcome A.End = ended
outcome A.Misfit = refused 1
outcome A.BadNode = refused 2
outcome A.TooDeep = refused 3
outcome A.FiniteFloat = refused 4
outcome A.Unsuited = refused 5
outcome A.TextTooLong = refused 6
outcome A.NoLayout = refused 7
outcome A.OutsideGrammar = refused 8
outcome A.TapeTooLong = refused 9
outcome A.PastText = refused 10
outcome A.OutsideOldGrammar = refused 13
outcome A.OutputTooLong = refused 14

-- the number of a refusal; 0 for a count and for the end mark
abbrev pub number_of : Outcome → ℕ
number_of (counted n) = 0
number_of ended = 0
number_of (refused n) = n

-- the number of a tape's own refusal
abbrev pub fault_number : Fault → ℕ
fault_number F.Misfit = 1
fault_number F.BadNode = 2
fault_number F.TooDeep = 3
fault_number F.FiniteFloat = 4

-- the same of what may be refused; 0 where it is not
abbrev pub fault_of : {A : Type 0} → Result A Fault → ℕ
fault_of (Ok x) = 0
fault_of (Err f) = fault_number f
