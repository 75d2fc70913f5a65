-- `program_io::frame_end` meets its contract. Assumes nothing.
use mathlib.Core.Path.{refl, sym}
use native.Mathlib.Omega.{arith}
use Rattle.program_io.proofs.Parts.{whole-frame, cut-frame}
use Rattle.program_io.proofs.frame_end.Goals as goal

pub returns-then-left-head-clause-end : goal.returns-then-left-head-clause-end
returns-then-left-head-clause-end c =
    let a = c.args in
    sym (cut-frame a.input.now a.at a.head _ refl (omega arith))

pub returns-then-left-head-2-clause-end : goal.returns-then-left-head-2-clause-end
returns-then-left-head-2-clause-end c =
    let a = c.args in
    sym (cut-frame a.input.now a.at a.head _ c.u32_at-n.ensures.0 (omega arith))

pub returns-clause-end : goal.returns-clause-end
returns-clause-end c =
    let a = c.args in
    sym (whole-frame a.input.now a.at a.head _ c.u32_at-n.ensures.0 (omega arith))
