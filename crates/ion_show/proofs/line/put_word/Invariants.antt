-- `ion_show::line::put_word` meets its contract. The invariant: the word that is asked for is the one so many words behind the place. Assumes nothing.
use Prim.Native.Nat.{◌-◌, ◌≤◌}
use mathlib.Core.Path.{◌≡◌}
use lib.ListN.{length, drop}
use Rattle.ion_show.specs.Lines.{nth}
use Rattle.ion_show.proofs.line.put_word.Given as goal

abbrev pub invariant-loop-passed : goal.invariant-loop-passed
invariant-loop-passed l = (l.at ≤ length l.words) × (nth l.number l.words ≡ nth (l.number - l._passed) (drop l.at l.words))
