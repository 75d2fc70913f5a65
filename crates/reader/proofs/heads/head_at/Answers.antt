-- `heads::head_at` meets its contract. Assumes nothing.
use Rattle.reader.proofs.Laying.{laid_bound}
use Rattle.reader.proofs.HeadSteps.{head-none, head-notes}
use Rattle.reader.proofs.heads.head_at.Goals as goal

pub returns-in_err-s : goal.returns-in_err-s
returns-in_err-s c =
    let k = c.in_err-s.ensures in
    rw c.from_residual.ensures (head-none _ _ _ k.0, k.1)

pub notes_at-requires : goal.notes_at-requires
notes_at-requires c =
    let k = c.in_ok-s.ensures in
    (k.3, laid_bound k.4)

pub returns : goal.returns
returns c =
    let x = c.args in
    head-notes _ x.text.now x.at x.pos _ x.buf.now c.name_at.new.buf c.notes_at.new.buf _ x.frame c.notes_at.result c.requires.1 c.in_ok-s.ensures c.notes_at.ensures
