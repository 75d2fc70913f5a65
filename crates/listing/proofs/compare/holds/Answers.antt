-- `listing::compare::holds` meets its contract. The invariant: so far the two are the same. Assumes nothing.
use mathlib.Core.Path.{◌≡◌, sym, ◌∙◌}
use native.Mathlib.Numerals.{add-one}
use native.Mathlib.Omega.{arith}
use lib.ListN.{length, get_or}
use lib.Seq.{take-suc}
use Rattle.listing.specs.Due.{filled}
use Rattle.listing.proofs.Comparing.{filled_byte, filled-length}
use Rattle.listing.proofs.compare.holds.Goals as goal

pub loop-i-preserved : goal.loop-i-preserved
loop-i-preserved c =
    let a = c.args in
    let o = a.out.now in
    let l = c.loop-i in
    let f = filled (length o) a.bytes.now a.rest in
    let h = c.loop-i-test.true in
    let n = filled-length (length o) a.bytes.now a.rest in
    let e : get_or o l.i 0 ≡ get_or f l.i 0 = c.if-b-due_at.false ∙ c.due_at.ensures ∙ sym (filled_byte (length o) a.bytes.now a.rest l.i h) in
    rw (add-one l.i, take-suc o l.i 0 h, take-suc f l.i 0 (omega arith), l.invariant, e)
