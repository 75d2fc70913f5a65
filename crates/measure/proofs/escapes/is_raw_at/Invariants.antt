-- `escapes::is_raw_at` meets its contract. The invariant: what is looked through is raw. Assumes nothing.
use Prim.Native.Nat.{◌-◌, ◌<◌}
use mathlib.Core.Path.{◌≡◌}
use lib.ListN.{take, drop}
use Rattle.text_rules.specs.Escapes.{text_body}
use Rattle.measure.proofs.escapes.is_raw_at.Given as goal

abbrev pub invariant-loop-i : goal.invariant-loop-i
invariant-loop-i l = (l.i < l.n) × (text_body (take l.i (drop l.from l.s)) ≡ take l.i (drop l.from l.s))

abbrev pub decreases-loop-i : goal.decreases-loop-i
decreases-loop-i l = l.n - l.i
