-- `output::copy` meets its contract. Assumes nothing.
use mathlib.Core.Path.{◌≡◌, ◌∙◌}
use Prim.Native.Nat.{ℕ, ◌+◌, ◌-◌}
use native.Mathlib.Omega.{arith}
use lib.ListN.{take, drop, length-take, length-drop}
use Rattle.output.proofs.Laws.{sets-part}
use Rattle.output.proofs.copy.Goals as goal

pub returns : goal.returns
returns g c =
    let a = c.args in
    let n = g.row.N in
    let e : a.pos + n - a.pos ≡ n = omega arith in
    let f : a.from + n - a.from ≡ n = omega arith in
    rw e (sets-part a.buf.now _ (take n (drop a.from a.s.now)) a.pos n (omega (arith, length-take {A = ℕ}, length-drop {A = ℕ})) c.requires.pos_in_bounds (c.copy_from_slice-2.ensures.after ∙ rw f at c.copy_from_slice.ensures.after))
