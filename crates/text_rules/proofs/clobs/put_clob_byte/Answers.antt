-- `clobs::put_clob_byte` meets its contract. Assumes nothing.
use mathlib.Core.Path.{sym}
use borrow.Author.Tests.{eq-eqb, ne_eqb}
use Rattle.text_rules.proofs.ClobLaws.{clob-by}
use Rattle.text_rules.proofs.clobs.put_clob_byte.Goals as goal

pub returns-then-kind-eq1 : goal.returns-then-kind-eq1
returns-then-kind-eq1 c = rw (clob-by c.args.b, sym c.requires, eq-eqb _ _ c.if-kind-eq1.true) c.put_letter.ensures

pub returns-then-kind-eq2 : goal.returns-then-kind-eq2
returns-then-kind-eq2 c =
    rw (clob-by c.args.b, sym c.requires, ne_eqb _ _ c.if-kind-eq1.false, eq-eqb _ _ c.if-kind-eq2.true) c.put_hex.ensures

pub returns : goal.returns
returns c = rw (clob-by c.args.b, sym c.requires, ne_eqb _ _ c.if-kind-eq1.false, ne_eqb _ _ c.if-kind-eq2.false) c.put.ensures
