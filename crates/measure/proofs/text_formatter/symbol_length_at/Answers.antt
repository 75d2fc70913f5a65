-- `text_formatter::symbol_length_at` meets its contract. Assumes nothing.
use Prim.Native.Nat.{◌+◌, ◌-◌}
use native.Mathlib.Omega.{arith}
use lib.ListN.{drop}
use lib.Seq.{take-take}
use Rattle.measure.proofs.text_formatter.symbol_length_at.Goals as goal

pub returns : goal.returns
returns c =
    let a = c.args in
    rw (take-take a.n (a.from + a.n + 8 - a.from) (drop a.from a.s.now) (omega arith)) at c.first_symbol_length.ensures
