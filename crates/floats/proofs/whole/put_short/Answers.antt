-- `floats::whole::put_short` meets its contract. Assumes nothing.
use native.Mathlib.Omega.{arith}
use Rattle.output.proofs.Laws.{wrote_then}
use Rattle.numbers.proofs.Pointed.{under-8}
use Rattle.floats.proofs.WholeLaws.{point-word}
use Rattle.floats.proofs.whole.put_short.Goals as goal

pub eight_digits-requires : goal.eight_digits-requires
eight_digits-requires c = under-8 c.args.m c.ranges.m.fits (omega (arith, c.requires.0, c.requires.2))

pub returns : goal.returns
returns c =
    rw (point-word c.args.m c.eight_digits.result c.args.w c.requires.0 c.requires.1 c.requires.2 c.eight_digits.ensures) (wrote_then c.put_two-p.ensures c.put_le.ensures)
