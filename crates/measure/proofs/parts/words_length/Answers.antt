-- `parts::words_length` meets its contract. Assumes nothing.
use Prim.Native.Nat.{◌+◌, ◌-◌}
use native.Mathlib.Omega.{arith}
use lib.ListN.{drop}
use lib.Seq.{take-take}
use Rattle.measure.proofs.parts.words_length.Goals as goal

pub returns : goal.returns
returns c =
    let a = c.args in
    rw (take-take a.n (a.from + a.n + 8 - a.from) (drop a.from a.tape.now) (omega arith)) at c.first_words_length.ensures
