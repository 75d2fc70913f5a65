-- `escapes::put_letter` meets its contract. Assumes nothing.
use mathlib.Core.Path.{sym}
use Rattle.output.proofs.Laws.{wrote_then}
use Rattle.text_rules.proofs.escapes.put_letter.Goals as goal

pub returns : goal.returns
returns c = rw (sym c.letter_of.ensures) (wrote_then c.put-p.ensures c.put.ensures)
