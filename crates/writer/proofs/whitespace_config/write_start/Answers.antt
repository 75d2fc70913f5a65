-- `whitespace_config::write_start` meets its contract. Assumes nothing.
use native.Mathlib.Omega.{arith}
use borrow.Author.Tests.{eq-eqb, ne_eqb}
use Rattle.output.proofs.Laws.{wrote_empty, wrote_then, wrote-bound}
use Rattle.writer.specs.Text.{broken}
use borrow.Author.Rules.{rules}
use Rattle.writer.proofs.whitespace_config.write_start.Goals as goal

pub returns-then-layout-eq2 : goal.returns-then-layout-eq2
unfolding broken
returns-then-layout-eq2 c = rw (eq-eqb _ _ c.if-layout-eq2.true) (wrote_then c.write_opening-p.ensures c.put.ensures)

pub returns : goal.returns
unfolding broken
returns c =
    rw (ne_eqb _ _ c.if-layout-eq2.false) (wrote_then c.write_opening-p.ensures (wrote_empty _ _ _ (omega (arith, wrote-bound c.write_opening-p.ensures)) (search rules)))
