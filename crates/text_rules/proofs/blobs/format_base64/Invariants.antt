-- `blobs::format_base64` meets its contract. Assumes nothing.
use Prim.Native.Nat.{◌+◌, ◌-◌, ◌≤◌}
use lib.ListN.{take, drop}
use Rattle.output.proofs.Laws.{Progress}
use Rattle.text_rules.specs.Base64.{base64}
use Rattle.text_rules.proofs.blobs.format_base64.Given as goal

abbrev pub invariant-loop-i : goal.invariant-loop-i
invariant-loop-i l = (l.i ≤ l.n) × Progress l.initial.buf l.buf l.pos l.p (base64 (take l.n (drop l.from l.s))) (base64 (take (l.n - l.i) (drop (l.from + l.i) l.s)))

abbrev pub decreases-loop-i : goal.decreases-loop-i
decreases-loop-i l = l.n - l.i
