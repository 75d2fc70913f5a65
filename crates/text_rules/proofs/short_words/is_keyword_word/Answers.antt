-- `short_words::is_keyword_word` meets its contract. Assumes nothing.
use mathlib.Core.Path.{sym}
use native.Mathlib.Omega.{arith}
use borrow.Author.Tests.{eq-eqb, ne_eqb}
use Rattle.text_rules.proofs.LaneTests.{keyword-3, keyword-4, keyword-5, keyword_none}
use Rattle.text_rules.proofs.short_words.is_keyword_word.Goals as goal

pub returns-then-starts_no_keyword : goal.returns-then-starts_no_keyword
returns-then-starts_no_keyword c = sym (c.starts_no_keyword.ensures c.if-starts_no_keyword.true _)

pub returns-in-3 : goal.returns-in-3
returns-in-3 c = rw (c.in-3.is, keyword-3 c.args.x)

pub returns-then-y-eq1702195828 : goal.returns-then-y-eq1702195828
returns-then-y-eq1702195828 c = rw (c.in-4.is, keyword-4 c.args.x, eq-eqb _ _ c.if-y-eq1702195828.true)

pub returns-else-y-eq1702195828 : goal.returns-else-y-eq1702195828
returns-else-y-eq1702195828 c = rw (c.in-4.is, keyword-4 c.args.x, ne_eqb _ _ c.if-y-eq1702195828.false)

pub returns-in-5 : goal.returns-in-5
returns-in-5 c = rw (c.in-5.is, keyword-5 c.args.x)

pub returns-in_default : goal.returns-in_default
returns-in_default c = sym (keyword_none c.args.n c.args.x (λ e. omega arith) (λ e. omega arith) (λ e. omega arith))
