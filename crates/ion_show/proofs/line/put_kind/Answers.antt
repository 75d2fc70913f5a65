-- `ion_show::line::put_kind` meets its contract. Assumes nothing.
use Rattle.ion_show.specs.Lines.{kind_name}
use Rattle.ion_show.proofs.line.put_kind.Goals as goal

pub returns : goal.returns
unfolding kind_name
returns c = c.put_word.ensures
