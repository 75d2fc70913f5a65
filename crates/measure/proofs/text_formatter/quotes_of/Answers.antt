-- `text_formatter::quotes_of` meets its contract. Assumes nothing.
use Rattle.measure.proofs.text_formatter.quotes_of.Goals as goal

pub returns-then-quoted : goal.returns-then-quoted
returns-then-quoted c = rw c.if-quoted.true

pub returns-else-quoted : goal.returns-else-quoted
returns-else-quoted c = rw c.if-quoted.false
