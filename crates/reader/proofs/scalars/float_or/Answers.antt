-- `scalars::float_or` meets its contract. Assumes nothing.
use Rattle.tape.specs.Tree.{encode}
use Rattle.reader.specs.Steps.{float_node}
use Rattle.reader.proofs.Laying.{laid}
use Rattle.reader.proofs.ScalarSteps.{untimed_float, untimed_other}
use Rattle.reader.proofs.scalars.float_or.Goals as goal

pub returns-in_default : goal.returns-in_default
returns-in_default c =
    let k = c.in_default.ensures in
    rw (untimed_other _ k.is) (c.put_numeral.ensures _ _ _ c.requires.2)

pub returns : goal.returns
unfolding encode
returns c =
    let k = c.in-Some.ensures in
    (float_node _, untimed_float _ _ k.is, k.place.0, k.place.1, laid c.put_float-p.ensures)
