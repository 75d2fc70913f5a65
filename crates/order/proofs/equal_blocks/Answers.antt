-- `order::equal_blocks` meets its contract. Assumes nothing.
use mathlib.Core.Path.{sym, ap, ◌∙◌}
use native.Mathlib.Omega.{arith}
use Prim.Native.Nat.{◌+◌}
use Rattle.output.specs.Wrote.{le_bytes}
use Rattle.order.proofs.SharedLaws.{shared_none, shared_block}
use Rattle.order.proofs.equal_blocks.Goals as goal

pub loop-n-init : goal.loop-n-init
loop-n-init c = shared_none _ _ _ _ _ _ (omega arith) (omega arith)

pub loop-n-preserved : goal.loop-n-preserved
loop-n-preserved c =
    let x = c.args in
    let l = c.loop-n in
    let h = l.invariant.left in
    let k = l.invariant.right in
    shared_block x.a.now x.i (x.i + x.most) x.b.now x.j (x.j + x.most) l.invariant (omega arith) (omega arith)
    (sym c.word_at.ensures ∙ ap (le_bytes 8) c.if-word_at.false ∙ c.word_at-in-loop-n.ensures)
    (sym c.word_at-in-loop-n-2.ensures ∙ ap (le_bytes 8) c.if-word_at-2.false ∙ c.word_at-in-loop-n-3.ensures)
    (sym c.word_at-in-loop-n-4.ensures ∙ ap (le_bytes 8) c.if-word_at-3.false ∙ c.word_at-in-loop-n-5.ensures)
    (sym c.word_at-in-loop-n-6.ensures ∙ ap (le_bytes 8) c.if-word_at-4.false ∙ c.word_at-in-loop-n-7.ensures)
