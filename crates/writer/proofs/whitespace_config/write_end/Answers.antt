-- `whitespace_config::write_end` meets its contract. Assumes nothing.
use Rattle.output.proofs.Laws.{wrote_empty}
use Rattle.writer.specs.Text.{closing}
use borrow.Author.Rules.{rules}
use Rattle.writer.proofs.whitespace_config.write_end.Goals as goal

pub returns-in-Top : goal.returns-in-Top
unfolding closing
returns-in-Top c = rw c.in-Top.is (wrote_empty _ _ _ c.bounded.ensures (search rules))

pub returns-in-List : goal.returns-in-List
unfolding closing
returns-in-List c = rw c.in-List.is c.put.ensures

pub returns-in-Sexp : goal.returns-in-Sexp
unfolding closing
returns-in-Sexp c = rw c.in-Sexp.is c.put-in-Sexp.ensures

pub returns-in-Struct : goal.returns-in-Struct
unfolding closing
returns-in-Struct c = rw c.in-Struct.is c.put-in-Struct.ensures
