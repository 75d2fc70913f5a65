-- `blanks::gap_at` meets its contract: each arm is told its frame. Assumes nothing.
use Rattle.reader.specs.Grammar.{gap}
use Rattle.reader.proofs.blanks.gap_at.Goals as goal

pub returns-in-Top : goal.returns-in-Top
returns-in-Top c = rw c.in-Top.is c.top_gap_at.ensures

pub returns-in-List : goal.returns-in-List
unfolding gap
returns-in-List c = rw c.in-List.is c.comma_at.ensures

pub returns-in-Sexp : goal.returns-in-Sexp
returns-in-Sexp c = rw c.in-Sexp.is c.sexp_gap_at.ensures

pub returns-in-Struct : goal.returns-in-Struct
unfolding gap
returns-in-Struct c = rw c.in-Struct.is c.comma_at-in-Struct.ensures
