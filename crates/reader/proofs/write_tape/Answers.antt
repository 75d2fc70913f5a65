-- `reader::write_tape` meets its contract: the sequence at the top, and the trailer. Assumes nothing.
use Prim.Native.Nat.{ℕ, suc, ◌*◌}
use mathlib.Core.Path.{◌∙◌}
use mathlib.Core.List.{List}
use native.Mathlib.Omega.{arith}
use native.Mathlib.Nat.{zero-add}
use lib.ListN.{length}
use Rattle.tape.specs.Tree.{tape}
use Rattle.reader.proofs.Reading.{meaning-some, meaning-none}
use Rattle.reader.proofs.Laying.{laid-tape}
use Rattle.reader.proofs.write_tape.Goals as goal

pub returns-in_err-run : goal.returns-in_err-run
returns-in_err-run c =
    let t : List ℕ = c.args.text.now in
    let r = c.in_err-run.ensures.told (suc (2 * length t)) (omega arith) in
    rw c.from_residual.ensures (meaning-none _ t r.0, r.1.as_long)

pub returns : goal.returns
unfolding tape
returns c =
    let t : List ℕ = c.args.text.now in
    let r = c.in_ok-run.ensures.told (suc (2 * length t)) (omega arith) in
    (r.0, meaning-some _ t _ r.0 r.1, r.2 ∙ zero-add _, laid-tape _ r.5 (rw c.far.ensures at c.put_le-p.ensures) (rw (c.far-2.ensures, r.2 ∙ zero-add _) at c.put_le-q.ensures))
