-- `short_words::starts_no_keyword` meets its contract. Assumes nothing.
use native.Mathlib.Omega.{arith}
use borrow.Author.Tests.{eqb-true}
use Rattle.text_rules.proofs.LaneTests.{keyword_start}
use Rattle.text_rules.proofs.short_words.starts_no_keyword.Goals as goal

pub overflow_shr-result : goal.overflow_shr-result
overflow_shr-result c = omega arith

pub returns : goal.returns
returns c = λ e n. keyword_start c.args.x n (eqb-true _ _ e)
