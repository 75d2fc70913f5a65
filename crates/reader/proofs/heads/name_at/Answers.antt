-- `heads::name_at` meets its contract. Assumes nothing.
use Rattle.reader.proofs.HeadSteps.{nameless, name_no, name-field}
use Rattle.reader.proofs.heads.name_at.Goals as goal

pub returns-in-Struct : goal.returns-in-Struct
returns-in-Struct c =
    let x = c.args in
    rw c.in-Struct.is (name-field _ x.text.now x.at x.pos x.buf.now c.field_at.new.buf c.field_at.result c.field_at.ensures)

pub returns-in_default : goal.returns-in_default
returns-in_default c =
    let x = c.args in
    name_no _ x.text.now x.at x.pos x.buf.now x.frame (nameless _ x.frame _ c.in_default.not-Struct) c.requires.0 c.requires.1
