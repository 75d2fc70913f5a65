-- `field_index::find` meets its contract. Assumes nothing.
use Rattle.field_index.specs.Names.{no_entry}
use Rattle.field_index.specs.NameSteps.{meant}
use Rattle.field_index.specs.Lookup.{sought}
use Rattle.field_index.proofs.SearchLaws.{turn, found}
use Rattle.field_index.proofs.find.Goals as goal

pub loop-r-preserved : goal.loop-r-preserved
loop-r-preserved c =
    let a = c.args in
    let l = c.loop-r in
    rw c.narrow-r.ensures (turn no_entry (sought a.tape.now (meant a.name)) a.entries.now l.r l.invariant c.loop-r-test.true).0

pub returns : goal.returns
returns c = rw c.place.ensures (found c.args.tape.now (meant c.args.name) c.args.entries.now _ c.loop-r.invariant c.loop-r-test.false)
