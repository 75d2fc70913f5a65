-- `output::store_low` meets its contract. Assumes nothing.
use Prim.Native.Nat.{ℕ, ◌+◌, ◌-◌, ◌*◌, ◌/◌, ◌^◌}
use mathlib.Core.Path.{◌≡◌, ap, ◌∙◌}
use mathlib.Core.List.{List}
use native.Mathlib.Omega.{arith}
use lib.Seq.{sets}
use Rattle.output.specs.Wrote.{le_bytes}
use Rattle.output.proofs.Words.{le-lap}
use Rattle.output.proofs.store_low.Goals as goal

pub returns-then-n-ge4 : goal.returns-then-n-ge4
returns-then-n-ge4 c =
    let a = c.args in
    c.store-then-n-ge4.ensures
    ∙ ap (λ (b : List ℕ). sets b (a.pos + (a.n - 4)) (le_bytes 4 (a.w / 2 ^ (8 * (a.n - 4))))) c.store.ensures
    ∙ le-lap a.buf.now a.pos a.w a.n 4 (omega arith) (omega arith)

pub returns-then-n-ge2 : goal.returns-then-n-ge2
returns-then-n-ge2 c =
    let a = c.args in
    c.store-then-n-ge2-2.ensures
    ∙ ap (λ (b : List ℕ). sets b (a.pos + (a.n - 2)) (le_bytes 2 (a.w / 2 ^ (8 * (a.n - 2))))) c.store-then-n-ge2.ensures
    ∙ le-lap a.buf.now a.pos a.w a.n 2 (omega arith) (omega arith)

pub returns-then-n-eq1 : goal.returns-then-n-eq1
unfolding le_bytes
returns-then-n-eq1 c = let e : c.args.n ≡ 1 = omega arith in rw e

pub returns-else-n-eq1 : goal.returns-else-n-eq1
unfolding le_bytes
returns-else-n-eq1 c = let e : c.args.n ≡ 0 = omega arith in rw e
