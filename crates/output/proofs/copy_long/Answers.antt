-- `output::copy_long` meets its contract. Assumes nothing.
use Prim.Native.Nat.{ℕ, ◌+◌, ◌-◌, ◌*◌}
use mathlib.Core.Path.{◌≡◌, ap, ◌∙◌}
use mathlib.Core.List.{List}
use native.Mathlib.Omega.{arith}
use lib.ListN.{length, take, drop}
use lib.Seq.{sets}
use Rattle.output.proofs.Laws.{sets-next, sets_last}
use Rattle.output.proofs.copy_long.Goals as goal

pub loop-k-preserved : goal.loop-k-preserved
loop-k-preserved c =
    let a = c.args in
    let i = 16 * c.loop-k.k in
    let e : 16 * (c.loop-k.k + 1) ≡ i + 16 = omega arith in
    rw e (c.copy.ensures ∙ ap (λ (b : List ℕ). sets b (a.pos + i) (take 16 (drop i a.s.now))) c.loop-k.invariant ∙ sets-next a.s.now a.buf.now a.pos i 16 (omega arith))

pub returns : goal.returns
returns c =
    let a = c.args in
    let last = length a.s.now - 16 in
    c.copy-2.ensures
    ∙ ap (λ (b : List ℕ). sets b (a.pos + last) (take 16 (drop last a.s.now))) c.loop-k.invariant
    ∙ sets_last a.s.now a.buf.now a.pos (16 * c.loop-k.k) 16 (omega arith) (omega arith) (omega arith)
