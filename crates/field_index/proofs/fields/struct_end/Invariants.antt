-- `field_index::fields::struct_end` meets its contract. Assumes nothing.
-- the struct is looked for among the nodes from a place to a place, with which nothing is wrong
use Prim.Native.Nat.{ℕ, ◌-◌, ◌≤◌}
use mathlib.Core.Path.{◌≡◌}
use mathlib.Core.List.{List}
use lib.ListN.{length}
use Rattle.tape.specs.Bytes.{part}
use Rattle.tape.specs.Tape.{walk}
use Rattle.tape.specs.declared.Frame.{Frame}
use Rattle.field_index.specs.Structs.{structs, stands_at, struct_at}
use Rattle.field_index.proofs.fields.struct_end.Given as goal

pub record Seeking (t : List ℕ) (at from end : ℕ) (k : Frame) : Type 0 where
  pub ordered : from ≤ end
  pub inside : end ≤ length t
  pub fine : (walk 65 k (part t from end)).1 ≡ 0
  pub told : struct_at t at ≡ stands_at at (structs from (walk 65 k (part t from end)).0)

abbrev pub invariant-loop-from : goal.invariant-loop-from
invariant-loop-from l = Seeking l.tape l.at l.from l.end l.frame

abbrev pub decreases-loop-from : goal.decreases-loop-from
decreases-loop-from l = l.end - l.from
