-- `escapes::escapes` meets its contract: the table's rule is one test, which antt computes over all of its entries. Assumes nothing.
use Rattle.text_rules.specs.Escapes.{has_letter, escape_kind}
use Rattle.lanes.proofs.Table.{rule}
use Rattle.text_rules.proofs.escapes.escapes.Goals as goal

pub returns : goal.returns
unfolding escape_kind has_letter
returns c = record { at = rule 0 escape_kind 256 }
