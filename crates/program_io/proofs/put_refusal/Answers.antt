-- `program_io::put_refusal` meets its contract. Assumes nothing.
use Rattle.output.proofs.Laws.{wrote_then}
use Rattle.program_io.specs.Shown.{refusal_text}
use Rattle.program_io.proofs.put_refusal.Goals as goal

pub returns : goal.returns
unfolding refusal_text
returns c = wrote_then c.put_bytes-p.ensures c.put_digits.ensures
