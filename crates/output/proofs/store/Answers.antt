-- `output::store` meets its contract. Assumes nothing.
use mathlib.Core.Path.{◌≡◌, sym, ap, ◌∙◌}
use Prim.Native.Nat.{◌+◌, ◌-◌}
use native.Mathlib.Omega.{arith}
use lib.ListN.{take}
use Rattle.output.specs.Wrote.{le_bytes}
use Rattle.output.proofs.Laws.{length-le, sets-part}
use Rattle.output.proofs.Words.{take-le, le-8}
use Rattle.output.proofs.store.Goals as goal

pub returns : goal.returns
returns g c =
    let a = c.args in
    let n = g.row.N in
    let e : a.pos + n - a.pos ≡ n = omega arith in
    rw e (sets-part a.buf.now _ (le_bytes n a.w) a.pos n (length-le n a.w) c.requires.room (c.copy_from_slice.ensures.after ∙ ap (take n) (c.to_le_bytes.ensures ∙ sym (le-8 a.w)) ∙ take-le n 8 a.w c.requires.width))
