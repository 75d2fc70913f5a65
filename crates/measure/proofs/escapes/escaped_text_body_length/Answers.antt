-- `escapes::escaped_text_body_length` meets its contract. Assumes nothing.
use Prim.Native.Nat.{◌+◌, ◌-◌}
use native.Mathlib.Omega.{arith}
use lib.ListN.{drop}
use lib.Seq.{take-take}
use Rattle.measure.proofs.escapes.escaped_text_body_length.Goals as goal

pub returns : goal.returns
returns c =
    let a = c.args in
    rw (take-take a.n (a.from + a.n + 8 - a.from) (drop a.from a.s.now) (omega arith)) at c.first_body_length.ensures
