-- `ion_show::line::put_clipped` meets its contract. Assumes nothing.
use borrow.Author.Tests.{le-leb, lt-leb}
use Rattle.output.proofs.Laws.{wrote_then}
use Rattle.ion_show.specs.Lines.{clipped_text}
use Rattle.ion_show.proofs.line.put_clipped.Goals as goal

pub returns-then-s-le1000 : goal.returns-then-s-le1000
unfolding clipped_text
returns-then-s-le1000 c = rw (le-leb _ _ c.if-s-le1000.true) c.format_clob.ensures

pub returns : goal.returns
unfolding clipped_text
returns c = rw (lt-leb _ _ c.if-s-le1000.false) (wrote_then c.format_clob-p.ensures c.put_bytes.ensures)
