-- `blobs::print_sextets` meets its contract. The invariant: what is left to print decides the whole. Assumes nothing.
use mathlib.Core.Path.{◌≡◌, refl, sym, ◌∙◌}
use Prim.Native.Nat.{◌-◌}
use native.Mathlib.Omega.{arith}
use lib.ListN.{length-set}
use Rattle.text_rules.specs.BlobSteps.{printed}
use Rattle.text_rules.proofs.Base64Laws.{printed-turn}
use Rattle.text_rules.proofs.blobs.print_sextets.Goals as goal

pub loop-i-init : goal.loop-i-init
loop-i-init c = (omega arith, omega arith, refl, refl)

pub loop-i-preserved : goal.loop-i-preserved
loop-i-preserved c =
    let l = c.loop-i in
    let to = c.args.to in
    (omega arith, omega arith, simp length-set l.invariant.2, l.invariant.3 ∙ printed-turn l.buf l.i to _ (omega arith) (omega arith) c.character.ensures)

pub shape_of-buf : goal.shape_of-buf
shape_of-buf c = c.loop-i.invariant.2

pub returns : goal.returns
unfolding printed
returns c =
    let l = c.loop-i in
    let z : c.args.to - l.i ≡ 0 = omega arith in
    sym (l.invariant.3 ∙ rw z)
