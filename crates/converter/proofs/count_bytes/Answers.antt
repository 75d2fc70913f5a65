-- `converter::count_bytes` meets its contract. Assumes nothing.
-- what is counted and what is left are the whole
use Prim.Native.Nat.{ℕ, ◌+◌}
use mathlib.Core.Path.{◌≡◌, ap}
use mathlib.Core.List.{List, []}
use native.Mathlib.Omega.{arith}
use lib.ListN.{length, get_or, drop, length-append, drop_of_length-le}
use Rattle.converter.specs.Convert.{replacement, converted}
use Rattle.converter.proofs.Steps.{byte_step}
use Rattle.converter.proofs.Texts.{converted-nothing}
use Rattle.converter.proofs.count_bytes.Goals as goal

pub loop-b-init : goal.loop-b-init
loop-b-init c = (omega arith, omega arith, omega arith)

pub loop-b-preserved : goal.loop-b-preserved
loop-b-preserved c =
    let l = c.loop-b in
    let s : List ℕ = c.args.s.now in
    let e = ap length (byte_step s l.b-index c.loop-b-test.true) in
    let p = length-append (replacement (get_or s l.b-index 0)) (converted (drop (l.b-index + 1) s)) in
    (omega arith, omega (arith, c.count_byte-c.ensures.1), omega (arith, e, p, c.count_byte-c.ensures.0, l.invariant.2))

pub returns : goal.returns
returns c =
    let l = c.loop-b in
    let s : List ℕ = c.args.s.now in
    let e : drop l.b-index s ≡ [] = drop_of_length-le s {i = l.b-index} (omega arith) in
    omega (arith, rw (e, converted-nothing) at l.invariant.2, l.invariant.0)
