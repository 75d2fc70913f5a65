-- `text_formatter::bool_length` meets its contract. Assumes nothing.
use Rattle.text_rules.specs.Text.{bool_text}
use Rattle.measure.proofs.text_formatter.bool_length.Goals as goal

pub returns-then-b : goal.returns-then-b
unfolding bool_text
returns-then-b c = rw c.if-b.true

pub returns-else-b : goal.returns-else-b
unfolding bool_text
returns-else-b c = rw c.if-b.false
