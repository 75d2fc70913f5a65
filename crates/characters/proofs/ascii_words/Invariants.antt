-- `characters::ascii_words` meets its contract. The invariant: what is left decides what is left from the first place. Assumes nothing.
use Prim.Native.Nat.{◌+◌, ◌*◌}
use mathlib.Core.Path.{◌≡◌}
use lib.ListN.{drop}
use Rattle.characters.specs.Utf8.{valid}
use Rattle.characters.proofs.ascii_words.Given as goal

abbrev pub invariant-loop-k : goal.invariant-loop-k
invariant-loop-k l = valid (drop l.from l.s) ≡ valid (drop (l.from + 8 * l.k) l.s)
