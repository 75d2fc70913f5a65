-- `blobs::put_sextets` meets its contract. The invariant of both loops: what is left to store decides the whole. Assumes nothing.
use mathlib.Core.Path.{◌≡◌}
use Prim.Native.Nat.{◌+◌, ◌-◌, ◌*◌, ◌/◌, ◌%◌, ◌≤◌}
use lib.ListN.{length, take, drop}
use lib.Seq.{sets}
use Rattle.lanes.specs.Sextets.{sextets}
use Rattle.text_rules.proofs.blobs.put_sextets.Given as goal

abbrev pub invariant-loop-i : goal.invariant-loop-i
invariant-loop-i l = (l.i ≤ l.end) × ((l.end - l.i) % 3 ≡ 0) × (l.p + (l.end - l.i) / 3 * 4 ≡ l.pos + l.n / 3 * 4) × (length l.buf ≡ length l.initial.buf) × (sets l.initial.buf l.pos (sextets (take l.n (drop l.from l.s))) ≡ sets l.buf l.p (sextets (take (l.end - l.i) (drop l.i l.s))))

abbrev pub decreases-loop-i : goal.decreases-loop-i
decreases-loop-i l = l.end - l.i

abbrev pub invariant-loop-i-2 : goal.invariant-loop-i-2
invariant-loop-i-2 l = (l.i ≤ l.end) × ((l.end - l.i) % 3 ≡ 0) × (l.p + (l.end - l.i) / 3 * 4 ≡ l.pos + l.n / 3 * 4) × (length l.buf ≡ length l.initial.buf) × (sets l.initial.buf l.initial.p (sextets (take (l.end - l.initial.i) (drop l.initial.i l.s))) ≡ sets l.buf l.p (sextets (take (l.end - l.i) (drop l.i l.s))))

abbrev pub decreases-loop-i-2 : goal.decreases-loop-i-2
decreases-loop-i-2 l = l.end - l.i
