-- `program_io::put_hex` meets its contract. Assumes nothing.
use Prim.Native.Nat.{◌≤◌}
use lib.ListN.{length, drop}
use Rattle.output.proofs.Laws.{Progress}
use Rattle.program_io.specs.Shown.{hex_text}
use Rattle.program_io.proofs.put_hex.Given as goal

abbrev pub invariant-loop-b : goal.invariant-loop-b
invariant-loop-b l = (l.b-index ≤ length l.bytes) × Progress l.initial.buf l.buf l.pos l.p (hex_text l.bytes) (hex_text (drop l.b-index l.bytes))
