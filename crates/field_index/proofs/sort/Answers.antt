-- `field_index::sort` meets its contract. Assumes nothing.
use Rattle.std.proofs.Common.{arith}
use Rattle.field_index.specs.Names.{before}
use Rattle.field_index.proofs.OrderLaws.{before_order}
use Rattle.field_index.proofs.SortStates.{at_last, onward, lower}
use Rattle.field_index.proofs.sort.Goals as goal

pub loop-h-smaller : goal.loop-h-smaller
loop-h-smaller c =
    let l = c.loop-h in
    let t = c.args.tape.now in
    lower (before t) (before_order t) c.args.entries.now (omega arith) l.h l.entries l.invariant c.loop-h-test.true c.turned-t.result c.turned-t.ensures

pub loop-h-preserved : goal.loop-h-preserved
loop-h-preserved c =
    let l = c.loop-h in
    let t = c.args.tape.now in
    onward (before t) (before_order t) c.args.entries.now (omega arith) l.h l.entries l.invariant c.loop-h-test.true c.turned-t.result c.turned-t.ensures

pub returns : goal.returns
returns c =
    let l = c.loop-h in
    let t = c.args.tape.now in
    at_last (before t) (before_order t) c.args.entries.now (omega arith) l.h l.entries l.invariant c.loop-h-test.false
