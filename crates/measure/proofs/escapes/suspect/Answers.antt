-- `escapes::suspect` meets its contract. Assumes nothing.
use native.Mathlib.Omega.{arith}
use borrow.Author.Tests.{le-leb, lt-leb, ne_eqb}
use Rattle.text_rules.specs.Escapes.{has_letter, has_hex, text_escape}
use Rattle.measure.proofs.escapes.suspect.Goals as goal

pub returns-then-b-lt32 : goal.returns-then-b-lt32
returns-then-b-lt32 c = λ e. absurd (omega arith)

pub returns-then-b-eq34 : goal.returns-then-b-eq34
returns-then-b-eq34 c = λ e. absurd (omega arith)

pub returns-then-b-eq39 : goal.returns-then-b-eq39
returns-then-b-eq39 c = λ e. absurd (omega arith)

pub returns-then-b-eq92 : goal.returns-then-b-eq92
returns-then-b-eq92 c = λ e. absurd (omega arith)

pub returns : goal.returns
unfolding text_escape has_letter has_hex
returns c =
    let b = c.args.b in
    λ e. simp (le-leb 1 b (omega arith), lt-leb b 6 (omega arith), le-leb 0x0E b (omega arith), lt-leb b 0x1F (omega arith), ne_eqb b 0 (λ z. omega arith), le-leb 7 b (omega arith), lt-leb b 13 (omega arith), ne_eqb _ _ c.if-b-eq34.false, ne_eqb _ _ c.if-b-eq39.false, ne_eqb _ _ c.if-b-eq92.false)
