-- `tape::check::check_nodes` meets its contract. The invariant: the nodes from `at` on are left, and what was gathered of those before. Assumes nothing.
use Prim.Native.Nat.{◌-◌, ◌≤◌}
use Rattle.tape.specs.Bytes.{part}
use Rattle.tape.specs.Tape.{walk}
use Rattle.tape.proofs.CodeWalk.{Passed}
use Rattle.tape.proofs.check.+check_nodes.Given as goal

abbrev pub decreases-check_nodes : goal.decreases-check_nodes
decreases-check_nodes l = l.depth

abbrev pub invariant-loop-at : goal.invariant-loop-at
invariant-loop-at l =
    (l.at ≤ l.end) × (l.count ≤ l.at) × Passed (walk l.depth l.frame (part l.tape l.from l.end)) (walk l.depth l.frame (part l.tape l.at l.end)) l.count l.noted l.numbered

abbrev pub decreases-loop-at : goal.decreases-loop-at
decreases-loop-at l = l.end - l.at
