-- `whitespace_config::write_blanks` meets its contract. Assumes nothing.
use Rattle.output.proofs.Laws.{wrote_none}
use borrow.Author.Rules.{rules}
use Rattle.writer.proofs.whitespace_config.write_blanks.Goals as goal

pub returns-then-width-eq0 : goal.returns-then-width-eq0
returns-then-width-eq0 c = rw c.if-width-eq0.true (wrote_none _ _ (search rules) (search rules))
