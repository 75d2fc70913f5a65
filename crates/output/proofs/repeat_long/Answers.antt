-- `output::repeat_long` meets its contract. Assumes nothing.
use mathlib.Core.Path.{◌≡◌, sym, ap, ◌∙◌}
use Prim.Native.Nat.{ℕ, ◌-◌}
use native.Mathlib.Omega.{arith}
use lib.ListN.{replicate, length-take, length-drop, length-replicate}
use lib.Seq.{sets}
use Rattle.output.proofs.Laws.{wrote-past, sets-part, sets-room}
use Rattle.output.proofs.Words.{take-replicate}
use borrow.Author.Rules.{rules}
use Rattle.output.proofs.repeat_long.Goals as goal

pub returns-then-pos-buf : goal.returns-then-pos-buf
returns-then-pos-buf c =
    let a = c.args in
    let s = replicate a.n a.x in
    let m = c.min-last.result - a.pos in
    let part : c.fill.new.self ≡ replicate m a.x = c.fill.ensures.after (search rules) ∙ ap (λ (j : ℕ). replicate j a.x) (omega (arith, length-take {A = ℕ}, length-drop {A = ℕ})) in
    record {
      bytes =
          sets-part a.buf.now _ (replicate m a.x) a.pos m (length-replicate m a.x) (omega arith) part
          ∙ ap (sets a.buf.now a.pos) (sym (take-replicate m a.n a.x (omega arith)))
          ∙ sets-room a.buf.now s a.pos m (omega (arith, length-replicate {A = ℕ}));
      count = rw (length-replicate a.n a.x) c.ahead-end.ensures;
      room = search rules;
    }

pub returns-else-pos-buf : goal.returns-else-pos-buf
returns-else-pos-buf c =
    let a = c.args in
    wrote-past _ _ _ a.n (replicate a.n a.x) c.if-pos-buf.false (search rules) (length-replicate a.n a.x) c.ahead-end.ensures
