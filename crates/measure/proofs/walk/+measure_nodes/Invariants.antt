-- `walk::measure_nodes` meets its contract. The invariant: the nodes from `at` on are left, and what was summed up and met of those before. Assumes nothing.
use Prim.Native.Nat.{◌-◌}
use Rattle.measure.specs.Steps.{quoting}
use Rattle.measure.proofs.SumSteps.{Walking}
use Rattle.measure.proofs.walk.+measure_nodes.Given as goal

abbrev pub decreases-measure_nodes : goal.decreases-measure_nodes
decreases-measure_nodes l = l.depth

abbrev pub invariant-loop-at : goal.invariant-loop-at
invariant-loop-at l = Walking (quoting l.quotes) l.tape l.from l.end l.frame l.depth l.initial.sums l.initial.seen l.sums l.seen l.at l.n l.count

abbrev pub decreases-loop-at : goal.decreases-loop-at
decreases-loop-at l = l.end - l.at
