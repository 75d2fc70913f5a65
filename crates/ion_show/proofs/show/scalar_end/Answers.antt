-- `ion_show::show::scalar_end` answers a place between the two, since a scalar that is there takes no more bytes than there are. Assumes nothing.
use mathlib.Core.Path.{◌≡◌, sym, ap}
use mathlib.Core.List.{List}
use mathlib.Core.Option.{some}
use Prim.Native.Nat.{ℕ, ◌+◌, ◌≤◌}
use lib.ListN.{length}
use native.Mathlib.Nat.{le_refl}
use native.Mathlib.Omega.{arith}
use Rattle.tape.specs.Bytes.{part}
use Rattle.tape.specs.Tree.{Scalar, encode_scalar}
use Rattle.tape.specs.Tape.{scalar_of}
use Rattle.tape.specs.Steps.{place_of}
use Rattle.tape.proofs.Reading.{scalar_sound}
use Rattle.tape.proofs.CodeReading.{place-within}
use Rattle.ion_show.proofs.show.scalar_end.Goals as goal

fits : (t : List ℕ) (at : ℕ) {s : Scalar} {n : ℕ} → at ≤ length t → some (s, n) ≡ scalar_of (part t at (length t)) → at + n ≤ length t
fits t at h e = (place-within encode_scalar t at (length t) _ (scalar_of (part t at (length t))) h (le_refl _) (scalar_sound _) (ap (place_of at) (sym e))).1

pub size_of-requires : goal.size_of-requires
size_of-requires c =
    let e = rw c.in-Some.is at c.scalar_at.ensures in
    let h = fits c.args.body.now c.args.at c.requires e in
    omega arith

pub overflow_add-result : goal.overflow_add-result
overflow_add-result c =
    let e = rw c.in-Some.is at c.scalar_at.ensures in
    let h = fits c.args.body.now c.args.at c.requires e in
    let n = c.size_of.ensures in
    omega arith

pub returns : goal.returns
returns c =
    let e = rw c.in-Some.is at c.scalar_at.ensures in
    let h = fits c.args.body.now c.args.at c.requires e in
    let n = c.size_of.ensures in
    (omega arith, omega arith)
