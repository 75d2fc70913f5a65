-- `whitespace_config::separator_of` meets its contract. Assumes nothing.
use Rattle.writer.proofs.Layouts.{separator-top, separator-list, separator_sexp, separator_struct}
use Rattle.writer.proofs.whitespace_config.separator_of.Goals as goal

pub returns-in-Top : goal.returns-in-Top
returns-in-Top c = rw c.in-Top.is (separator-top _ _ c.space_between_top_level_values.ensures)

pub returns-in-List : goal.returns-in-List
returns-in-List c = rw c.in-List.is (separator-list _ _ c.space_between_nested_values.ensures)

pub returns-in-Sexp : goal.returns-in-Sexp
returns-in-Sexp c = rw c.in-Sexp.is (separator_sexp _ _ c.space_between_nested_values-in-Sexp.ensures)

pub returns-in-Struct : goal.returns-in-Struct
returns-in-Struct c = rw c.in-Struct.is (separator_struct _ _ c.space_between_nested_values-in-Struct.ensures)
