-- `floats::whole::trimmed` meets its contract. The invariant: a trailing zero less has the same significant digits. Assumes nothing.
use mathlib.Core.Path.{◌≡◌}
use Prim.Native.Nat.{◌^◌, ◌<◌}
use Rattle.text_rules.specs.Digits.{digits}
use Rattle.floats.specs.Whole.{significant}
use Rattle.floats.proofs.whole.trimmed.Given as goal

abbrev pub invariant-loop-m : goal.invariant-loop-m
invariant-loop-m l = (0 < l.m) × (l.m < 2 ^ 64) × (significant (digits l.n) ≡ significant (digits l.m))

abbrev pub decreases-loop-m : goal.decreases-loop-m
decreases-loop-m l = l.m
