-- `blanks::close_at` meets its contract: each arm is told its frame. Assumes nothing.
use native.Mathlib.Omega.{arith}
use Rattle.text_rules.proofs.Places.{byte_at, end-at}
use Rattle.reader.specs.Grammar.{closes}
use Rattle.reader.proofs.blanks.close_at.Goals as goal

pub returns-then-at-text : goal.returns-then-at-text
unfolding closes
returns-then-at-text c =
    let x = c.args in
    rw c.in-Top.is (rw (end-at x.text.now x.at c.if-at-text.true), omega arith, omega arith)

pub returns-else-at-text : goal.returns-else-at-text
unfolding closes
returns-else-at-text c =
    let x = c.args in
    rw (c.in-Top.is, byte_at x.text.now x.at (omega arith))

pub returns-in-List : goal.returns-in-List
unfolding closes
returns-in-List c = rw c.in-List.is c.mark_at.ensures

pub returns-in-Sexp : goal.returns-in-Sexp
unfolding closes
returns-in-Sexp c = rw c.in-Sexp.is c.mark_at-in-Sexp.ensures

pub returns-in-Struct : goal.returns-in-Struct
unfolding closes
returns-in-Struct c = rw c.in-Struct.is c.mark_at-in-Struct.ensures
