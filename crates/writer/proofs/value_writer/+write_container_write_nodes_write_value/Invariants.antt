-- The walk's invariant: the text of the nodes before `at` is written, that of the nodes from `at` on is left, and nothing is wrong with these.
use Prim.Native.Nat.{◌+◌, ◌*◌, ◌-◌, ◌≤◌}
use mathlib.Core.Path.{◌≡◌}
use Rattle.output.proofs.Laws.{Progress}
use Rattle.tape.specs.Bytes.{part}
use Rattle.tape.specs.Tape.{walk}
use Rattle.writer.specs.Steps.{items}
use Rattle.writer.proofs.value_writer.+write_container_write_nodes_write_value.Given as goal

-- the body's depth counts three times, so that a value and a container of the same depth stand between two bodies
abbrev pub decreases-write_container : goal.decreases-write_container
decreases-write_container l = 1 + 3 * l.depth

abbrev pub decreases-write_nodes : goal.decreases-write_nodes
decreases-write_nodes l = 3 * l.depth

abbrev pub decreases-write_value : goal.decreases-write_value
decreases-write_value l = 2 + 3 * l.depth

abbrev pub invariant-write_nodes-loop-at : goal.invariant-write_nodes-loop-at
invariant-write_nodes-loop-at l =
    (l.at ≤ l.end)
    × ((walk l.depth l.frame (part l.tape l.at l.end)).1 ≡ 0)
    × Progress l.fn.buf l.buf l.pos l.p (items l.quoted l.layout l.frame l.width (walk l.depth l.frame (part l.tape l.from l.end)).0) (items l.quoted l.layout l.frame l.width (walk l.depth l.frame (part l.tape l.at l.end)).0)

abbrev pub decreases-write_nodes-loop-at : goal.decreases-write_nodes-loop-at
decreases-write_nodes-loop-at l = l.end - l.at
