-- `ion_show::line::put_place` meets its contract. Assumes nothing.
use Rattle.output.proofs.Laws.{wrote_then}
use Rattle.ion_show.specs.Lines.{place_text}
use Rattle.ion_show.proofs.line.put_place.Goals as goal

pub returns : goal.returns
unfolding place_text
returns c =
    let a = wrote_then c.put_column-p.ensures c.put_bytes-q.ensures in
    let b = wrote_then (wrote_then a c.put_column-r.ensures) c.put_bytes-s.ensures in
    wrote_then (wrote_then b c.put_column-t.ensures) c.put_bytes.ensures
