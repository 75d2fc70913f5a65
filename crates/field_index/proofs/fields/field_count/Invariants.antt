-- `field_index::fields::field_count` meets its contract. Assumes nothing.
-- n fields are passed, and the others stand from a place on
use Prim.Native.Nat.{ℕ, ◌+◌, ◌-◌, ◌≤◌}
use mathlib.Core.Path.{◌≡◌}
use mathlib.Core.List.{List}
use Rattle.tape.specs.Tree.{size}
use Rattle.field_index.specs.IndexSteps.{children_in, Body}
use Rattle.field_index.proofs.fields.field_count.Given as goal

pub record Counting (t : List ℕ) (from end at n : ℕ) : Type 0 where
  pub body : Body t at end
  pub count : n + size (children_in t at end) ≡ size (children_in t from end)
  pub few : n ≤ at

abbrev pub invariant-loop-at : goal.invariant-loop-at
invariant-loop-at l = Counting l.tape l.from l.end l.at l.n

abbrev pub decreases-loop-at : goal.decreases-loop-at
decreases-loop-at l = l.end - l.at
