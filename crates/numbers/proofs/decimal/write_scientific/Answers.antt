-- `numbers::decimal::write_scientific` meets its contract. Assumes nothing.
use mir.Syntax.{w64}
use mir.ValLaws.{to_z-of_z}
use Rattle.output.proofs.Laws.{wrote_then}
use Rattle.numbers.specs.Decimal.{scientific}
use Rattle.numbers.proofs.decimal.write_scientific.Goals as goal

pub returns : goal.returns
unfolding scientific
returns c =
    wrote_then c.put_pointed-p.ensures (wrote_then c.put-q.ensures (rw (to_z-of_z w64 c.args.exponent c.ranges.exponent) at c.format_integer.ensures))
