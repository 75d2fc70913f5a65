-- `blobs::print_sextets` meets its contract. The invariant: what is left to print decides the whole. Assumes nothing.
use mathlib.Core.Path.{◌≡◌}
use Prim.Native.Nat.{◌-◌, ◌≤◌}
use lib.ListN.{length, take, drop}
use lib.Seq.{sets}
use Rattle.text_rules.specs.BlobSteps.{printed}
use Rattle.text_rules.proofs.blobs.print_sextets.Given as goal

abbrev pub invariant-loop-i : goal.invariant-loop-i
invariant-loop-i l = (l.from ≤ l.i) × (l.i ≤ l.to) × (length l.buf ≡ length l.initial.buf) × (sets l.initial.buf l.from (printed (take (l.to - l.from) (drop l.from l.initial.buf))) ≡ sets l.buf l.i (printed (take (l.to - l.i) (drop l.i l.buf))))
