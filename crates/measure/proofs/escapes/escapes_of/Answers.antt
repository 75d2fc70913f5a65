-- `escapes::escapes_of` meets its contract. The invariant: by so many bytes is the body of what is looked through longer. Assumes nothing.
-- i may pass n at the end
use Prim.Native.Nat.{◌+◌, min}
use mathlib.Core.Path.{◌≡◌}
use native.Mathlib.Omega.{arith}
use lib.ListN.{take, drop}
use Rattle.output.specs.Wrote.{le_bytes}
use Rattle.text_rules.specs.Escapes.{text_body}
use Rattle.text_rules.proofs.LaneTests.{word-part}
use Rattle.measure.proofs.EscapeLengths.{body_more, word_body_most, escapes_most}
use Rattle.measure.proofs.escapes.escapes_of.Goals as goal

pub loop-i-init : goal.loop-i-init
unfolding text_body
loop-i-init c =
    let e : min 0 c.args.n ≡ 0 = omega arith in
    (omega arith, rw e)

pub overflow_add-c : goal.overflow_add-c
overflow_add-c c =
    let a = c.args in
    record { fits = omega (arith, escapes_most a.s.now (min c.loop-i.i a.n) c.loop-i.c c.loop-i.invariant.1, c.escapes_add-c.ensures, word_body_most c.min.result c.word_at.result, c.min.ensures, c.requires) }

pub loop-i-preserved : goal.loop-i-preserved
loop-i-preserved c =
    let l = c.loop-i in
    let a = c.args in
    let s = a.s.now in
    let w = c.word_at in
    let k = c.min.result in
    let m : min l.i a.n ≡ l.i = omega (arith, c.loop-i-test.true) in
    let p : min (l.i + 8) a.n ≡ l.i + k = omega (arith, c.min.ensures, c.loop-i-test.true) in
    let e : le_bytes k w.result ≡ take k (drop l.i s) = word-part s l.i k w.result (omega (arith, c.min.ensures)) w.ensures in
    (omega (arith, c.loop-i-test.true), rw p (body_more s l.i k l.c c.escapes_add-c.result w.result (rw m at l.invariant.1) e c.escapes_add-c.ensures))

pub returns : goal.returns
returns c =
    let l = c.loop-i in
    let m : min l.i c.args.n ≡ c.args.n = omega (arith, c.loop-i-test.false) in
    rw m at l.invariant.1
