-- `text_formatter::format_bool` meets its contract. Assumes nothing.
use Rattle.output.specs.Wrote.{le_bytes}
use Rattle.text_rules.specs.Text.{bool_text}
use Rattle.text_rules.proofs.text_formatter.format_bool.Goals as goal

pub returns-then-b : goal.returns-then-b
unfolding bool_text le_bytes
returns-then-b c = rw c.if-b.true c.put_le.ensures

pub returns-else-b : goal.returns-else-b
unfolding bool_text le_bytes
returns-else-b c = rw c.if-b.false c.put_le-else-b.ensures
