-- `escapes::escapes_of` meets its contract. The invariant: by so many bytes is the body of what is looked through longer. Assumes nothing.
-- i may pass n at the end
use Prim.Native.Nat.{◌+◌, ◌-◌, ◌<◌, min}
use mathlib.Core.Path.{◌≡◌}
use lib.ListN.{length, take}
use Rattle.text_rules.specs.Escapes.{text_body}
use Rattle.measure.proofs.escapes.escapes_of.Given as goal

abbrev pub invariant-loop-i : goal.invariant-loop-i
invariant-loop-i l = (l.i < l.n + 8) × (min l.i l.n + l.c ≡ length (text_body (take (min l.i l.n) l.s)))

abbrev pub decreases-loop-i : goal.decreases-loop-i
decreases-loop-i l = l.n - l.i
