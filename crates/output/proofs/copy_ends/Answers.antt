-- `output::copy_ends` meets its contract. Assumes nothing.
use mathlib.Core.Path.{ap, ◌∙◌}
use mathlib.Core.List.{List}
use Prim.Native.Nat.{ℕ, ◌+◌, ◌-◌}
use lib.ListN.{length, take, drop}
use lib.Seq.{sets}
use Rattle.output.proofs.Laws.{sets-lap}
use Rattle.output.proofs.copy_ends.Goals as goal

pub returns : goal.returns
returns g c =
    let a = c.args in
    let n = g.row.N in
    let last = length a.s.now - n in
    c.copy-2.ensures
    ∙ ap (λ (l : List ℕ). sets l (a.pos + last) (take n (drop last a.s.now))) c.copy.ensures
    ∙ sets-lap a.s.now a.buf.now a.pos n c.requires.least c.requires.most
