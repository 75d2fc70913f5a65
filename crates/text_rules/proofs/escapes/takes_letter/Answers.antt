-- `escapes::takes_letter` meets its contract. Assumes nothing.
use mathlib.Core.Bool.{or-false}
use native.Mathlib.Omega.{arith}
use borrow.Author.Tests.{le-leb, lt-leb, eq-eqb, ne_eqb}
use Rattle.text_rules.specs.Escapes.{has_letter}
use Rattle.text_rules.proofs.escapes.takes_letter.Goals as goal

pub returns-then-b-eq34 : goal.returns-then-b-eq34
unfolding has_letter
returns-then-b-eq34 c =
    let b = c.args.b in
    simp (ne_eqb b 0 (λ z. omega arith), le-leb 7 b (omega arith), lt-leb b 13 (omega arith), eq-eqb _ _ c.if-b-eq34.true)

pub returns-then-b-eq92 : goal.returns-then-b-eq92
unfolding has_letter
returns-then-b-eq92 c =
    let b = c.args.b in
    simp (ne_eqb b 0 (λ z. omega arith), le-leb 7 b (omega arith), lt-leb b 13 (omega arith), ne_eqb _ _ c.if-b-eq34.false, eq-eqb _ _ c.if-b-eq92.true)

pub returns-then-b-ge32 : goal.returns-then-b-ge32
unfolding has_letter
returns-then-b-ge32 c =
    let b = c.args.b in
    simp (ne_eqb b 0 (λ z. omega arith), le-leb 7 b (omega arith), lt-leb b 13 (omega arith), ne_eqb _ _ c.if-b-eq34.false, ne_eqb _ _ c.if-b-eq92.false)

pub returns-then-b-eq0 : goal.returns-then-b-eq0
unfolding has_letter
returns-then-b-eq0 c = simp (eq-eqb _ _ c.if-b-eq0.true)

pub returns-then-b-lt7 : goal.returns-then-b-lt7
unfolding has_letter
returns-then-b-lt7 c =
    let b = c.args.b in
    simp (ne_eqb _ _ c.if-b-eq0.false, lt-leb 7 b (omega arith), ne_eqb b 34 (λ z. omega arith), ne_eqb b 92 (λ z. omega arith), ne_eqb b 39 (λ z. omega arith))

pub returns : goal.returns
unfolding has_letter
returns c =
    let b = c.args.b in
    simp (ne_eqb _ _ c.if-b-eq0.false, le-leb 7 b (omega arith), ne_eqb b 34 (λ z. omega arith), ne_eqb b 92 (λ z. omega arith), ne_eqb b 39 (λ z. omega arith), or-false)
