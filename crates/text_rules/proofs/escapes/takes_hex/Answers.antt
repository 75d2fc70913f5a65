-- `escapes::takes_hex` meets its contract. Assumes nothing.
use mathlib.Core.Bool.{and-true, or-false}
use native.Mathlib.Omega.{arith}
use borrow.Author.Tests.{le-leb, lt-leb}
use Rattle.text_rules.specs.Escapes.{has_hex}
use Rattle.text_rules.proofs.escapes.takes_hex.Goals as goal

pub returns-then-b-ge32 : goal.returns-then-b-ge32
unfolding has_hex
returns-then-b-ge32 c =
    let b = c.args.b in
    simp (le-leb 1 b (omega arith), lt-leb b 6 (omega arith), le-leb 0x0E b (omega arith), lt-leb b 0x1F (omega arith))

pub returns-then-b-le6 : goal.returns-then-b-le6
unfolding has_hex
returns-then-b-le6 c =
    let b = c.args.b in
    simp (le-leb b 6 c.if-b-le6.true, lt-leb 0x0E b (omega arith), and-true, or-false)

pub returns : goal.returns
unfolding has_hex
returns c =
    let b = c.args.b in
    simp (le-leb 1 b (omega arith), lt-leb b 6 c.if-b-le6.false, le-leb b 0x1F (omega arith), and-true)
