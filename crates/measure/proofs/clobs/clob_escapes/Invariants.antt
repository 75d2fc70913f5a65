-- `clobs::clob_escapes` meets its contract. The invariant: what is added up and the body of what is left are the whole body. Assumes nothing.
use Prim.Native.Nat.{◌+◌, ◌*◌, ◌≤◌}
use mathlib.Core.Path.{◌≡◌}
use lib.ListN.{length, drop}
use Rattle.text_rules.specs.Escapes.{clob_body}
use Rattle.measure.proofs.clobs.clob_escapes.Given as goal

abbrev pub invariant-loop-b : goal.invariant-loop-b
invariant-loop-b l = record {
  most : l.c ≤ 3 * l.b-index;
  sum : l.b-index + l.c + length (clob_body (drop l.b-index l.s)) ≡ length (clob_body l.s);
}
