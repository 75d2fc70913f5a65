-- `listing::decode::decode` meets its contract. The invariant: the bytes so far, and behind them what is spelled from the place on, are all that is
-- spelled; the rest of the buffer is as it was. Assumes nothing.
use Prim.Native.Nat.{◌-◌, ◌≤◌}
use mathlib.Core.Path.{◌≡◌}
use lib.ListN.{length, take, drop}
use Rattle.listing.specs.Spelling.{bytes_of}
use Rattle.listing.proofs.Spelled.{behind}
use Rattle.listing.proofs.decode.decode.Given as goal

abbrev pub invariant-loop-at : goal.invariant-loop-at
invariant-loop-at l = (l.at ≤ length l.said)
    × (l.n ≤ length l.out)
    × (length l.out ≡ length l.initial.out)
    × (drop l.n l.out ≡ drop l.n l.initial.out)
    × (bytes_of l.form 0 l.said ≡ behind (take l.n l.out) (bytes_of l.form 0 (drop l.at l.said)))

abbrev pub decreases-loop-at : goal.decreases-loop-at
decreases-loop-at l = length l.said - l.at
