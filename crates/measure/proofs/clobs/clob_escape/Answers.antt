-- `clobs::clob_escape` meets its contract. Assumes nothing.
-- NUL
use native.Mathlib.Omega.{arith}
use borrow.Author.Tests.{le-leb, lt-leb, ne_eqb}
use Rattle.text_rules.specs.Escapes.{has_letter, clob_escape}
use Rattle.measure.proofs.clobs.clob_escape.Goals as goal

pub returns-then-b-eq0 : goal.returns-then-b-eq0
unfolding clob_escape has_letter
returns-then-b-eq0 c = (rw c.if-b-eq0.true, omega arith)

-- 1 to 6
pub returns-then-b-lt7 : goal.returns-then-b-lt7
unfolding clob_escape has_letter
returns-then-b-lt7 c =
    let b = c.args.b in
    (simp (ne_eqb b 0 c.if-b-eq0.false, lt-leb 7 b c.if-b-lt7.true, ne_eqb b 34 (λ z. omega arith), ne_eqb b 92 (λ z. omega arith), lt-leb 0x20 b (omega arith)), omega arith)

-- 7 to 13
pub returns-then-b-lt14 : goal.returns-then-b-lt14
unfolding clob_escape has_letter
returns-then-b-lt14 c =
    let b = c.args.b in
    (simp (ne_eqb b 0 (λ z. omega arith), le-leb 7 b (omega arith), le-leb b 13 (omega arith)), omega arith)

-- 14 to hex 1F
pub returns-then-b-lt32 : goal.returns-then-b-lt32
unfolding clob_escape has_letter
returns-then-b-lt32 c =
    let b = c.args.b in
    (simp (ne_eqb b 0 (λ z. omega arith), le-leb 7 b (omega arith), lt-leb b 13 (omega arith), ne_eqb b 34 (λ z. omega arith), ne_eqb b 92 (λ z. omega arith), lt-leb 0x20 b (omega arith)), omega arith)

-- from hex 7F on
pub returns-then-b-gt126 : goal.returns-then-b-gt126
unfolding clob_escape has_letter
returns-then-b-gt126 c =
    let b = c.args.b in
    (simp (ne_eqb b 0 (λ z. omega arith), le-leb 7 b (omega arith), lt-leb b 13 (omega arith), ne_eqb b 34 (λ z. omega arith), ne_eqb b 92 (λ z. omega arith), le-leb 0x20 b (omega arith), lt-leb b 0x7E (omega arith)), omega arith)

-- a quote mark
pub returns-then-b-eq34 : goal.returns-then-b-eq34
unfolding clob_escape has_letter
returns-then-b-eq34 c = (rw c.if-b-eq34.true, omega arith)

-- a backslash
pub returns-then-b-eq92 : goal.returns-then-b-eq92
unfolding clob_escape has_letter
returns-then-b-eq92 c = (rw c.if-b-eq92.true, omega arith)

pub returns : goal.returns
unfolding clob_escape has_letter
returns c =
    let b = c.args.b in
    (simp (ne_eqb b 0 (λ z. omega arith), le-leb 7 b (omega arith), lt-leb b 13 (omega arith), ne_eqb b 34 c.if-b-eq34.false, ne_eqb b 92 c.if-b-eq92.false, le-leb 0x20 b (omega arith), le-leb b 0x7E (omega arith)), omega arith)
