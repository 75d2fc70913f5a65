-- `clobs::put_clob_by` meets its contract. Assumes nothing.
use Prim.Native.Nat.{◌-◌, ◌≤◌}
use lib.ListN.{length, drop}
use Rattle.output.proofs.Laws.{Progress}
use Rattle.text_rules.specs.Escapes.{clob_body}
use Rattle.text_rules.proofs.clobs.put_clob_by.Given as goal

abbrev pub invariant-loop-i : goal.invariant-loop-i
invariant-loop-i l = (l.i ≤ length l.s) × Progress l.initial.buf l.buf l.pos l.p (clob_body l.s) (clob_body (drop l.i l.s))

abbrev pub decreases-loop-i : goal.decreases-loop-i
decreases-loop-i l = length l.s - l.i
