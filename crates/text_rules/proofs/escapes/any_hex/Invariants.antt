-- `escapes::any_hex` meets its contract. Assumes nothing.
-- where no flag is set yet, what was looked through takes two bytes for each at most
use Prim.Native.Nat.{◌+◌, ◌*◌, ◌≤◌}
use mathlib.Core.Path.{◌≡◌}
use mathlib.Core.Bool.{false}
use lib.ListN.{length, drop}
use Rattle.text_rules.specs.Escapes.{text_body}
use Rattle.text_rules.proofs.escapes.any_hex.Given as goal

abbrev pub invariant-loop-b : goal.invariant-loop-b
invariant-loop-b l = (l.b-index ≤ length l.s) × (l.any ≡ false → length (text_body l.s) ≤ 2 * l.b-index + length (text_body (drop l.b-index l.s)))
