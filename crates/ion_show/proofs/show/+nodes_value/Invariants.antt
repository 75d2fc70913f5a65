-- `ion_show::show::nodes` and `ion_show::show::value` are safe, end, and stop in their bytes: a container is opened while fewer than 64 are, and a
-- child has at least one byte. Assumes nothing.
use Prim.Native.Nat.{◌+◌, ◌*◌, ◌-◌, ◌≤◌}
use mathlib.Core.Path.{◌≡◌}
use lib.ListN.{length}
use Rattle.ion_show.proofs.show.+nodes_value.Given as goal

abbrev pub decreases-nodes : goal.decreases-nodes
decreases-nodes g l = 1 + 2 * (64 - l.how.level)

abbrev pub decreases-value : goal.decreases-value
decreases-value g l = 2 * (64 - l.how.level)

abbrev pub invariant-nodes-loop-at : goal.invariant-nodes-loop-at
invariant-nodes-loop-at g l = (l.at ≤ length l.body) × (length l.text ≡ length l.initial.text) × (length l.spare ≡ length l.initial.spare)

abbrev pub decreases-nodes-loop-at : goal.decreases-nodes-loop-at
decreases-nodes-loop-at g l = length l.body - l.at
