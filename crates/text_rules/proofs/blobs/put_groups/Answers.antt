-- `blobs::put_groups` meets its contract. Assumes nothing.
use Prim.Native.Nat.{◌+◌, ◌-◌, ◌*◌, ◌≤◌}
use mathlib.Core.Path.{◌≡◌}
use native.Mathlib.Omega.{arith}
use Rattle.output.proofs.Laws.{begin, more, finish, wrote_then, wrote-length}
use Rattle.text_rules.specs.Base64.{base64}
use Rattle.text_rules.proofs.Base64Laws.{base64-turn}
use borrow.Author.Rules.{rules}
use Rattle.text_rules.proofs.blobs.put_groups.Goals as goal

pub loop-k-init : goal.loop-k-init
loop-k-init c =
    let a = c.args in
    let e : a.from + a.n - (a.from + 3 * 0) ≡ a.n = omega arith in
    let f : a.from + 3 * 0 ≡ a.from = omega arith in
    rw (e, f) (begin _ _ _ _ c.bounded-p.ensures (search rules))

pub loop-k-preserved : goal.loop-k-preserved
loop-k-preserved c =
    let a = c.args in
    let l = c.loop-k in
    let i = a.from + 3 * l.k in
    let h : i + 3 ≤ a.from + a.n = omega arith in
    let f : a.from + 3 * (l.k + 1) ≡ i + 3 = omega arith in
    let t = base64-turn a.s.now i (a.from + a.n) _ _ _ _ (λ j. (c.type_inv.s j).fits) h (omega arith) c.character.ensures c.character-in-loop-k.ensures c.character-in-loop-k-2.ensures c.character-in-loop-k-3.ensures in
    rw f (more l.invariant (wrote_then c.put_two-q.ensures c.put_two-p.ensures) t)

pub shape_of-buf : goal.shape_of-buf
shape_of-buf c = wrote-length c.loop-k.invariant.wrote

pub returns : goal.returns
unfolding base64
returns c =
    let a = c.args in
    let z : a.from + a.n - (a.from + 3 * c.loop-k.k) ≡ 0 = omega arith in
    finish c.loop-k.invariant (rw z)
