-- `tape::check::frame_of` meets its contract. Assumes nothing.
use borrow.Author.Tests.{eq-eqb, ne_eqb}
use Rattle.tape.specs.CheckSteps.{frame_of}
use Rattle.tape.proofs.check.frame_of.Goals as goal

pub returns-then-k-eq10 : goal.returns-then-k-eq10
unfolding frame_of
returns-then-k-eq10 c = simp (eq-eqb _ _ c.if-k-eq10.true)

pub returns-then-k-eq11 : goal.returns-then-k-eq11
unfolding frame_of
returns-then-k-eq11 c = simp (ne_eqb _ _ c.if-k-eq10.false, eq-eqb _ _ c.if-k-eq11.true)

pub returns : goal.returns
unfolding frame_of
returns c = simp (ne_eqb _ _ c.if-k-eq10.false, ne_eqb _ _ c.if-k-eq11.false)
