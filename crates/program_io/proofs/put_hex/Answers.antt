-- `program_io::put_hex` meets its contract. Assumes nothing.
use Prim.Native.Nat.{ℕ, ◌<◌}
use mathlib.Core.Path.{◌≡◌}
use mathlib.Core.List.{List, []}
use native.Mathlib.Omega.{arith}
use lib.ListN.{length, drop, drop_of_length-le}
use borrow.Author.Rules.{rules}
use Rattle.output.proofs.Laws.{begin, more, finish, wrote-length}
use Rattle.program_io.specs.Shown.{hex_text}
use Rattle.program_io.proofs.Parts.{hex-step}
use Rattle.program_io.proofs.put_hex.Goals as goal

pub loop-b-init : goal.loop-b-init
loop-b-init c = (omega arith, begin _ _ _ _ c.bounded-p.ensures (search rules))

pub loop-b-preserved : goal.loop-b-preserved
loop-b-preserved c =
    let l = c.loop-b in
    let s : List ℕ = c.args.bytes.now in
    let h : l.b-index < length s = c.loop-b-test.true in
    (omega arith, more l.invariant.1 c.put_two-p.ensures (rw (c.hex_digit.ensures, c.hex_digit-in-loop-b.ensures) (hex-step s l.b-index h)))

pub shape_of-buf : goal.shape_of-buf
shape_of-buf c = wrote-length c.loop-b.invariant.1.wrote

pub returns : goal.returns
unfolding hex_text
returns c =
    let l = c.loop-b in
    let s : List ℕ = c.args.bytes.now in
    let e : drop l.b-index s ≡ [] = drop_of_length-le s {i = l.b-index} (omega arith) in
    finish l.invariant.1 (rw e)
