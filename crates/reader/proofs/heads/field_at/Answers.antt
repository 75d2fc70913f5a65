-- `heads::field_at` meets its contract. Assumes nothing.
use native.Mathlib.Omega.{arith}
use Rattle.reader.proofs.HeadSteps.{field-none, field_alone, field_here}
use Rattle.reader.proofs.heads.field_at.Goals as goal

pub returns-in_err-s : goal.returns-in_err-s
returns-in_err-s c =
    let k = c.in_err-s.ensures in
    rw c.from_residual.ensures (field-none _ _ k.0, k.1)

pub skip_blanks-c-requires : goal.skip_blanks-c-requires
skip_blanks-c-requires c = c.in_ok-s.ensures.3

pub returns-in_err-b : goal.returns-in_err-b
returns-in_err-b c =
    let k = c.in_ok-s.ensures in
    rw c.from_residual-in_err-b.ensures (field_alone _ _ _ _ k.1 c.skip_blanks-c.ensures.is c.in_err-b.ensures, k.4.kept)

pub skip_blanks-d-requires : goal.skip_blanks-d-requires
skip_blanks-d-requires c = c.in_ok-b.ensures.2

pub returns : goal.returns
returns c =
    let k = c.in_ok-s.ensures in
    let m = c.in_ok-b.ensures in
    let s = c.skip_blanks-d.ensures in
    (k.0, field_here _ _ _ _ _ _ k.1 c.skip_blanks-c.ensures.is m.0 s.is, omega (arith, k.2, c.skip_blanks-c.ensures.ahead, m.1, s.ahead), s.inside, k.4)
