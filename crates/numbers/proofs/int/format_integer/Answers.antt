-- `numbers::int::format_integer` meets its contract. Assumes nothing.
use mir.Syntax.{w64}
use mir.ValLaws.{to_z-of_z}
use Rattle.numbers.proofs.DecimalLaws.{text_int, signed}
use Rattle.numbers.proofs.int.format_integer.Goals as goal

pub returns : goal.returns
returns c =
    let x = c.args in
    let z = to_z-of_z w64 x.n c.ranges.n in
    let m = rw z at c.unsigned_abs.ensures.value in
    rw (text_int x.n) (signed _ (rw z at c.put_sign-p.ensures.minus) (rw z at c.put_sign-p.ensures.nothing) (rw m at c.put_digits.ensures))
