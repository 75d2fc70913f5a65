-- `program_io::all_frames` meets its contract: so far there were frames alone. Assumes nothing.
use Rattle.std.proofs.Common.{rules, of_calls}
use Rattle.program_io.specs.Framed.{at_start, one_more}
use Rattle.program_io.proofs.all_frames.Goals as goal

pub loop-at-init : goal.loop-at-init
loop-at-init g c = (search rules, at_start, search rules)

pub loop-at-preserved : goal.loop-at-preserved
loop-at-preserved g c = (search rules, one_more _ _ c.loop-at.invariant.1 (search rules), search of_calls)
