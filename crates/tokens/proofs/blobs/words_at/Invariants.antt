-- `blobs::words_at` meets its contract. The invariant: groups stand up to i, and their bytes are written. Assumes nothing.
use Prim.Native.Nat.{◌-◌}
use lib.ListN.{length}
use Rattle.tokens.specs.BlobSteps.{Decoded}
use Rattle.tokens.proofs.blobs.words_at.Given as goal

abbrev pub invariant-loop-i : goal.invariant-loop-i
invariant-loop-i l = Decoded l.text l.at l.initial.buf l.buf l.pos record { at = l.i; pos = l.p }

abbrev pub decreases-loop-i : goal.decreases-loop-i
decreases-loop-i l = length l.text - l.i
