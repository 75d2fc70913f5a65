-- With n more containers that may be open, `compare_nodes` measures 2n and `compare_value` 2n + 1. The invariant of the loop: what is left from the
-- present places on decides the order of the whole. Assumes nothing.
use Rattle.std.proofs.Common.{◌+◌, ◌-◌, ◌*◌, ◌≡◌, take, drop}
use Rattle.tape.specs.Bytes.{part}
use Rattle.tape.specs.Tape.{walk}
use Rattle.order.specs.Order.{nodes}
use Rattle.order.specs.Steps.{Body}
use Rattle.order.proofs.+compare_nodes_compare_value.Given as goal

abbrev pub decreases-compare_nodes : goal.decreases-compare_nodes
decreases-compare_nodes l = 2 * l.depth

abbrev pub decreases-compare_value : goal.decreases-compare_value
decreases-compare_value l = 1 + 2 * l.depth

abbrev pub invariant-compare_nodes-loop-x : goal.invariant-compare_nodes-loop-x
invariant-compare_nodes-loop-x l =
    Body l.depth l.frame l.a l.x l.ea
    × Body l.depth l.frame l.b l.y l.eb
    × (nodes (walk l.depth l.frame (part l.a l.i l.ea)).0 (walk l.depth l.frame (part l.b l.j l.eb)).0 ≡ nodes (walk l.depth l.frame (part l.a l.x l.ea)).0 (walk l.depth l.frame (part l.b l.y l.eb)).0)
    × (take l.n (drop l.x l.a) ≡ take l.n (drop l.y l.b))

abbrev pub decreases-compare_nodes-loop-x : goal.decreases-compare_nodes-loop-x
decreases-compare_nodes-loop-x l = l.ea - l.x
