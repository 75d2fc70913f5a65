-- What `convert` answers and leaves, case by case. Assumes nothing.
use Prim.Native.Nat.{ℕ, ◌≤◌, ◌<◌}
use mathlib.Core.Path.{◌≡◌}
use mathlib.Core.Bool.{true, false}
use mathlib.Core.List.{List, ◌++◌}
use lib.ListN.{length, drop}
use borrow.Author.Tests.{le-leb, lt-leb}
use Rattle.tape.specs.Answer.{counted, refused}
use Rattle.converter.specs.Convert.{converted}
use Rattle.converter.specs.Outcome.{is_old, has_room, answer, leaves}

module _ (t b : List ℕ) where
  pub thirteen : is_old t ≡ false → (refused 13 ≡ answer t (length b)) × (b ≡ leaves t b)
  unfolding answer leaves
  thirteen h = (rw h, rw h)

  pub fourteen : is_old t ≡ true → length b < length (converted t) → (refused 14 ≡ answer t (length b)) × (b ≡ leaves t b)
  unfolding answer leaves has_room
  fourteen h l = (rw (h, lt-leb (length (converted t)) (length b) l), rw (h, lt-leb (length (converted t)) (length b) l))

  pub finished : is_old t ≡ true → length (converted t) ≤ length b → (counted (length (converted t)) ≡ answer t (length b)) × (converted t ++ drop (length (converted t)) b ≡ leaves t b)
  unfolding answer leaves has_room
  finished h l = (rw (h, le-leb (length (converted t)) (length b) l), rw (h, le-leb (length (converted t)) (length b) l))
