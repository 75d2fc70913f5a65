-- `escapes::any_suspect` meets its contract. The invariant: where no flag is set yet, the whole needs no escape if what is left needs none.
-- Assumes nothing.
use mathlib.Core.Path.{◌≡◌}
use lib.ListN.{drop}
use Rattle.text_rules.specs.Escapes.{text_body}
use Rattle.measure.proofs.escapes.any_suspect.Given as goal

abbrev pub invariant-loop-b : goal.invariant-loop-b
invariant-loop-b l = l.n ≡ 0 → text_body (drop l.b-index l.s) ≡ drop l.b-index l.s → text_body l.s ≡ l.s
