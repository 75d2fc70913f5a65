-- `scalars::number_at` meets its contract. Assumes nothing.
use Rattle.tape.specs.Tree.{encode}
use Rattle.reader.proofs.Laying.{laid}
use Rattle.reader.proofs.ScalarSteps.{timestamp_node, number-timed, number_untimed}
use Rattle.reader.proofs.scalars.number_at.Goals as goal

pub returns-in_default : goal.returns-in_default
returns-in_default c =
    let k = c.in_default.ensures in
    rw (number_untimed _ k.is) c.untimed_at.ensures

pub returns : goal.returns
unfolding encode
returns c =
    let k = c.in-Some.ensures in
    (timestamp_node _, number-timed _ _ _ k.is, k.place.0, k.place.1, laid c.put_timestamp-p.ensures)
