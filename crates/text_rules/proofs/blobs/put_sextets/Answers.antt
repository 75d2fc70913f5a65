-- `blobs::put_sextets` meets its contract. The invariant of both loops: what is left to store decides the whole. Assumes nothing.
use mathlib.Core.Path.{◌≡◌, refl, sym, ◌∙◌}
use Prim.Native.Nat.{◌+◌, ◌-◌, ◌≤◌}
use native.Mathlib.Omega.{arith}
use lib.ListN.{length, take, drop}
use Rattle.output.specs.Wrote.{le_bytes}
use Rattle.lanes.specs.Sextets.{sextets}
use Rattle.text_rules.proofs.Base64Laws.{sextets-turn, spread-8, spread-4, part-3}
use borrow.Author.Rules.{rules}
use Rattle.text_rules.proofs.blobs.put_sextets.Goals as goal

pub loop-i-init : goal.loop-i-init
loop-i-init c =
    let a = c.args in
    let e : a.from + a.n - a.from ≡ a.n = omega arith in
    (omega arith, omega arith, omega arith, refl, rw e)

pub loop-i-preserved : goal.loop-i-preserved
loop-i-preserved c =
    let a = c.args in
    let l = c.loop-i in
    let w = c.word_at in
    let r = c.spread in
    let s = a.s.now in (
      omega arith,
      omega arith,
      omega arith,
      search rules,
      l.invariant.4 ∙ sextets-turn s l.buf _ _ l.p l.i 6 (a.from + a.n) refl (omega arith) (omega arith) (spread-8 w.result r.result (drop l.i s) w.ensures r.ensures) c.store.ensures,
    )

pub loop-i-2-init : goal.loop-i-2-init
loop-i-2-init c =
    let l = c.loop-i.invariant in
    (l.0, l.1, l.2, refl, refl)

pub loop-i-2-preserved : goal.loop-i-2-preserved
loop-i-2-preserved c =
    let a = c.args in
    let l = c.loop-i-2 in
    let r = c.spread-in-loop-i-2 in
    let k = c.type_inv.s in
    let s = a.s.now in
    let h : l.i + 3 ≤ a.from + a.n = omega arith in
    let q : a.from + a.n ≤ length s = omega arith in
    let u : le_bytes 4 r.result ≡ sextets (take 3 (drop l.i s)) = rw (part-3 s l.i (omega arith)) (spread-4 _ _ _ r.result (k l.i).fits (k (l.i + 1)).fits (k (l.i + 2)).fits (rw (c.from.ensures, c.from-in-loop-i-2.ensures, c.from-in-loop-i-2-2.ensures) at r.ensures)) in (
      h,
      omega arith,
      omega arith,
      search rules,
      l.invariant.4 ∙ sextets-turn s l.buf _ _ l.p l.i 3 (a.from + a.n) refl h q u c.store-in-loop-i-2.ensures,
    )

pub shape_of-buf : goal.shape_of-buf
shape_of-buf c = c.loop-i-2.invariant.3 ∙ c.loop-i.invariant.3

pub returns : goal.returns
unfolding sextets
returns c =
    let a = c.args in
    let l = c.loop-i-2 in
    let z : a.from + a.n - l.i ≡ 0 = omega arith in
    record { bytes = sym (c.loop-i.invariant.4 ∙ l.invariant.4 ∙ rw z); place = omega arith }
