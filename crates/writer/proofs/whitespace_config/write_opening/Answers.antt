-- `whitespace_config::write_opening` meets its contract. Assumes nothing.
use Rattle.output.proofs.Laws.{wrote_empty}
use Rattle.writer.specs.Text.{opening}
use borrow.Author.Rules.{rules}
use Rattle.writer.proofs.whitespace_config.write_opening.Goals as goal

pub returns-in-Top : goal.returns-in-Top
unfolding opening
returns-in-Top c = rw c.in-Top.is (wrote_empty _ _ _ c.bounded.ensures (search rules))

pub returns-in-List : goal.returns-in-List
unfolding opening
returns-in-List c = rw c.in-List.is c.put.ensures

pub returns-in-Sexp : goal.returns-in-Sexp
unfolding opening
returns-in-Sexp c = rw c.in-Sexp.is c.put-in-Sexp.ensures

pub returns-in-Struct : goal.returns-in-Struct
unfolding opening
returns-in-Struct c = rw c.in-Struct.is c.put-in-Struct.ensures
