-- `whitespace_config::write_separator` meets its contract. Assumes nothing.
use Rattle.writer.specs.Steps.{separating}
use Rattle.writer.proofs.whitespace_config.write_separator.Goals as goal

pub returns-then-s : goal.returns-then-s
unfolding separating
returns-then-s c = rw c.if-s.true c.put_two.ensures

pub returns : goal.returns
unfolding separating
returns c = rw c.if-s.false c.put.ensures
