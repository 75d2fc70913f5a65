-- `line_reader::nth_call` meets its contract: no call is made for 0 and for more than 32; else it is the last of n calls. Assumes nothing.
use mathlib.Core.Path.{◌∙◌}
use native.Mathlib.Omega.{arith}
use Rattle.line_reader.proofs.RunLaws.{nth-none, nth-many, nth-some}
use Rattle.line_reader.proofs.nth_call.Goals as goal

pub returns-in_default : goal.returns-in_default
returns-in_default c =
    let a = c.args in
    nth-none a.n a.text.now a.out.now (omega arith)

pub returns-in_default-2 : goal.returns-in_default-2
returns-in_default-2 c =
    let a = c.args in
    nth-many a.n a.text.now a.out.now (omega arith)

pub last_call-requires : goal.last_call-requires
last_call-requires c = (omega arith, omega arith)

pub returns-in-1-to-32 : goal.returns-in-1-to-32
returns-in-1-to-32 c =
    let a = c.args in
    c.last_call.ensures ∙ nth-some a.n a.text.now a.out.now (omega arith)
