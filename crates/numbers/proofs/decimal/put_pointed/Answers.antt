-- `numbers::decimal::put_pointed` meets its contract. Assumes nothing.
use native.Mathlib.Omega.{arith}
use native.Mathlib.Nat.{add_assoc}
use Prim.Native.Nat.{◌+◌, ◌-◌}
use mathlib.Core.Path.{◌≡◌, sym, ◌∙◌}
use Rattle.output.proofs.Laws.{wrote_then}
use Rattle.numbers.proofs.Stores.{wrote_here}
use Rattle.numbers.proofs.Pointed.{length-pointed}
use Rattle.numbers.proofs.DecimalLaws.{pointed_parts}
use borrow.Author.Rules.{rules}
use Rattle.numbers.proofs.decimal.put_pointed.Goals as goal

pub returns-then-w-le8 : goal.returns-then-w-le8
returns-then-w-le8 c =
    let x = c.args in
    let q = c.requires in
    rw (add_assoc x.pos x.w 1) (wrote_here (x.w + 1) c.pointed_short.ensures (length-pointed x.n x.w x.k q.0 q.3) (omega arith) (search rules))

pub returns-then-k-w : goal.returns-then-k-w
returns-then-k-w c =
    let x = c.args in
    let q = c.requires in
    rw (add_assoc x.pos x.w 1) (wrote_here (x.w + 1) c.pointed_long.ensures (length-pointed x.n x.w x.k q.0 q.3) (omega arith) (search rules))

pub returns-then-w-le16 : goal.returns-then-w-le16
returns-then-w-le16 c =
    let x = c.args in
    let q = c.requires in
    rw (add_assoc x.pos x.w 1) (wrote_here (x.w + 1) c.pointed_late.ensures (length-pointed x.n x.w x.k q.0 q.3) (omega arith) (search rules))

pub returns : goal.returns
returns c =
    let x = c.args in
    let q = c.requires in
    let h : x.k + (x.w - x.k) ≡ x.w = omega (arith, q.3) in
    let v = rw c.pow10.ensures.0 at c.put_digits-p.ensures in
    rw (sym (pointed_parts x.k (x.w - x.k) x.n (omega arith) q.2 (h ∙ q.0))) (wrote_then v (wrote_then c.put-q.ensures c.put_padded.ensures))
