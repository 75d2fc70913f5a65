-- `converter::put_converted_bytes` meets its contract. Assumes nothing.
use Prim.Native.Nat.{◌≤◌}
use lib.ListN.{length, drop}
use Rattle.output.proofs.Laws.{Progress}
use Rattle.converter.specs.Convert.{converted}
use Rattle.converter.proofs.put_converted_bytes.Given as goal

abbrev pub invariant-loop-b : goal.invariant-loop-b
invariant-loop-b l = (l.b-index ≤ length l.s) × Progress l.initial.buf l.buf l.pos l.p (converted l.s) (converted (drop l.b-index l.s))
