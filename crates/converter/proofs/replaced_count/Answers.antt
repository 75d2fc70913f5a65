-- `converter::replaced_count` meets its contract. Assumes nothing.
-- what is counted and what is left are the whole
use Prim.Native.Nat.{ℕ, ◌-◌, ◌≤◌}
use mathlib.Core.Path.{◌≡◌, ap}
use mathlib.Core.List.{List, []}
use native.Mathlib.Omega.{arith}
use lib.ListN.{length, take, drop, length-append, length-take, length-drop, drop_of_length-le}
use Rattle.converter.specs.Convert.{converted}
use Rattle.converter.proofs.Steps.{block_step}
use Rattle.converter.proofs.Texts.{converted-nothing, length_most}
use Rattle.converter.proofs.replaced_count.Goals as goal

pub loop-i-init : goal.loop-i-init
loop-i-init c = (omega arith, omega arith, omega arith)

-- a block has as many bytes as it is long, and no more of them are replaced
block : (c : goal.After-count_block-c) → let i = c.loop-i.i in let e = c.block_end-e.result in
    (length (take (e - i) (drop i c.args.s.now)) ≡ e - i) × (c.count_block-c.result ≤ e - i)
block c =
    let i = c.loop-i.i in
    let e = c.block_end-e.result in
    let s : List ℕ = c.args.s.now in
    let b = take (e - i) (drop i s) in
    let l = length-take (e - i) (drop i s) in
    let d = length-drop i s in
    let k = c.block_end-e.ensures in
    let m = length_most b in
    let n = c.count_block-c.ensures in
    (omega arith, omega arith)

pub overflow_add-c : goal.overflow_add-c
overflow_add-c c = record { fits = omega (arith, c.loop-i.invariant.1, (block c).1, c.block_end-e.ensures.1, c.well_formed) }

pub loop-i-smaller : goal.loop-i-smaller
loop-i-smaller c = omega (arith, c.block_end-e.ensures.0, c.block_end-e.ensures.1)

pub loop-i-preserved : goal.loop-i-preserved
loop-i-preserved c =
    let l = c.loop-i in
    let e = c.block_end-e.result in
    let s : List ℕ = c.args.s.now in
    let k = c.block_end-e.ensures in
    let b = block c in
    let t = ap length (block_step s l.i e (omega (arith, k.0))) in
    let p = length-append (converted (take (e - l.i) (drop l.i s))) (converted (drop e s)) in
    (k.1, omega (arith, l.invariant.1, b.1, k.0), omega (arith, t, p, b.0, c.count_block-c.ensures, l.invariant.2, k.0))

pub returns : goal.returns
returns c =
    let l = c.loop-i in
    let s : List ℕ = c.args.s.now in
    let e : drop l.i s ≡ [] = drop_of_length-le s {i = l.i} (omega arith) in
    omega (arith, rw (e, converted-nothing) at l.invariant.2, l.invariant.0, c.loop-i-test.false)
