-- `quoted::hex_at` meets its contract. The invariant: the digits that are left, joined behind the number so far, are the whole. Assumes nothing.
use Prim.Native.Nat.{◌+◌, ◌-◌, ◌^◌, ◌≤◌, ◌<◌}
use mathlib.Core.Path.{◌≡◌}
use lib.ListN.{length, drop}
use Rattle.text_rules.specs.Escapes.{hex}
use Rattle.tokens.proofs.quoted.hex_at.Given as goal

abbrev pub invariant-loop-i : goal.invariant-loop-i
invariant-loop-i l = (l.i ≤ l.w) × (l.at + l.i ≤ length l.text) × (l.v < 16 ^ l.i) × (hex l.w 0 (drop l.at l.text) ≡ hex (l.w - l.i) l.v (drop (l.at + l.i) l.text))
