-- `characters::or_first` meets its contract. The invariant: where no bit of hex 80 is set yet, what is left decides the whole. Assumes nothing.
use Prim.Native.Nat.{◌<◌}
use mathlib.Core.Path.{◌≡◌}
use lib.ListN.{drop}
use Rattle.characters.specs.Utf8.{after, valid}
use Rattle.characters.proofs.or_first.Given as goal

abbrev pub invariant-loop-b : goal.invariant-loop-b
invariant-loop-b l = l.bits < 128 → valid l.s ≡ after 0 (drop l.b-index l.s)
