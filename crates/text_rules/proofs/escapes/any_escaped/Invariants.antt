-- `escapes::any_escaped` meets its contract. The invariant: where no flag is set yet, the whole needs no escape if what is left needs none.
-- Assumes nothing.
use Prim.Native.Nat.{◌≤◌}
use mathlib.Core.Path.{◌≡◌}
use mathlib.Core.Bool.{false}
use lib.ListN.{length, drop}
use Rattle.text_rules.specs.Escapes.{text_body}
use Rattle.text_rules.proofs.escapes.any_escaped.Given as goal

abbrev pub invariant-loop-b : goal.invariant-loop-b
invariant-loop-b l = (l.b-index ≤ length l.s) × (l.any ≡ false → text_body (drop l.b-index l.s) ≡ drop l.b-index l.s → text_body l.s ≡ l.s)
