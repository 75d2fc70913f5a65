-- `output::word_at` meets its contract. Assumes nothing.
use mathlib.Core.Path.{◌≡◌}
use Prim.Native.Nat.{◌+◌, ◌-◌}
use native.Mathlib.Omega.{arith}
use Rattle.output.proofs.Words.{le-eight}
use Rattle.output.proofs.word_at.Goals as goal

pub returns : goal.returns
returns c =
    let a = c.args in
    let e : a.from + 8 - a.from ≡ 8 = omega arith in
    le-eight c.copy_from_slice.new.self c.from_le_bytes.result a.s.now a.from (rw e at c.copy_from_slice.ensures.after) c.requires c.type_inv.s c.from_le_bytes.ensures
