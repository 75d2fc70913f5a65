-- `output::le_clipped` meets its contract. Assumes nothing.
use Prim.Native.Nat.{ℕ, suc, ◌+◌, ◌-◌}
use mathlib.Core.Path.{◌≡◌, ap}
use native.Mathlib.Omega.{arith}
use Rattle.output.specs.Wrote.{le_bytes}
use Rattle.output.proofs.Laws.{length-le, wrote-past, more, finish}
use borrow.Author.Rules.{rules}
use Rattle.output.proofs.le_clipped.Goals as goal

pub returns-then-buf-pos : goal.returns-then-buf-pos
returns-then-buf-pos c =
    let a = c.args in
    wrote-past _ _ _ a.width (le_bytes a.width a.n) c.if-buf-pos.true (search rules) (length-le a.width a.n) c.ahead.ensures

pub loop-preserved : goal.loop-preserved
unfolding le_bytes
loop-preserved c =
    let l = c.loop in
    let e : c.args.width - l.counter ≡ suc (c.args.width - (l.counter + 1)) = omega arith in
    more l.invariant c.put-p.ensures (ap (λ (k : ℕ). le_bytes k l.m) e)

pub returns : goal.returns
unfolding le_bytes
returns c =
    let l = c.loop in
    let e : c.args.width - l.counter ≡ 0 = omega arith in
    finish l.invariant (ap (λ (k : ℕ). le_bytes k l.m) e)
