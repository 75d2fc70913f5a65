-- `blobs::put_groups` meets its contract. Assumes nothing.
use Prim.Native.Nat.{◌+◌, ◌-◌, ◌*◌}
use lib.ListN.{take, drop}
use Rattle.output.proofs.Laws.{Progress}
use Rattle.text_rules.specs.Base64.{base64}
use Rattle.text_rules.proofs.blobs.put_groups.Given as goal

abbrev pub invariant-loop-k : goal.invariant-loop-k
invariant-loop-k l = Progress l.initial.buf l.buf l.pos l.p (base64 (take l.n (drop l.from l.s))) (base64 (take (l.from + l.n - (l.from + 3 * l.k)) (drop (l.from + 3 * l.k) l.s)))
