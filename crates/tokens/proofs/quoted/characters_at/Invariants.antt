-- `quoted::characters_at` meets its contract. The invariant: what is said of the rest from i on holds of the whole. Assumes nothing.
use Prim.Native.Nat.{ℕ, ◌-◌, ◌≤◌}
use mathlib.Core.Path.{◌≡◌}
use mathlib.Core.List.{List}
use lib.ListN.{length}
use Rattle.tokens.specs.Quoted.{raw_rule, character}
use Rattle.tokens.specs.declared.quoted.Step.{Step}
use Rattle.std.specs.Prelude.{Option}
use Rattle.tokens.proofs.QuotedMany.{ManyAt}
use Rattle.tokens.proofs.quoted.characters_at.Given as goal

abbrev pub invariant-loop-at : goal.invariant-loop-at
invariant-loop-at l = (l.at ≤ l.i) × (l.i ≤ length l.text) × (length l.buf ≡ length l.initial.buf) × ((r : Option Step) (b' : List ℕ) → ManyAt (character (raw_rule l.old)) l.q l.text l.i l.buf b' l.p r → ManyAt (character (raw_rule l.old)) l.q l.text l.at l.initial.buf b' l.pos r)

abbrev pub decreases-loop-at : goal.decreases-loop-at
decreases-loop-at l = length l.text - l.i
