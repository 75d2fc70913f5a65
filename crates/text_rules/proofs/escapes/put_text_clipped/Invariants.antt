-- `escapes::put_text_clipped` meets its contract. Assumes nothing.
use Prim.Native.Nat.{◌≤◌}
use lib.ListN.{length, drop}
use Rattle.output.proofs.Laws.{Progress}
use Rattle.text_rules.specs.Escapes.{text_body}
use Rattle.text_rules.proofs.escapes.put_text_clipped.Given as goal

abbrev pub invariant-loop-b : goal.invariant-loop-b
invariant-loop-b l = (l.b-index ≤ length l.s) × Progress l.initial.buf l.buf l.pos l.p (text_body l.s) (text_body (drop l.b-index l.s))
