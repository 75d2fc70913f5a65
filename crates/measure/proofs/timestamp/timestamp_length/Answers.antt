-- `measure::timestamp::timestamp_length` meets its contract. Assumes nothing.
use mathlib.Core.Path.{sym, ◌∙◌}
use native.Mathlib.Omega.{arith}
use borrow.Author.Tests.{eq-eqb, ne_eqb}
use Rattle.measure.proofs.NumberLengths.{length_short, length-minute, length-second}
use Rattle.measure.proofs.timestamp.timestamp_length.Goals as goal

pub returns-then-x-eq0 : goal.returns-then-x-eq0
returns-then-x-eq0 c = sym (length-second c.args.x (omega (arith, c.if-p-gt3.true)) ∙ rw (eq-eqb _ _ c.if-x-eq0.true))

pub returns-then-p-gt3 : goal.returns-then-p-gt3
returns-then-p-gt3 c = sym (length-second c.args.x (omega (arith, c.if-p-gt3.true)) ∙ rw (ne_eqb _ _ c.if-x-eq0.false) (omega arith))

pub returns-then-p-gt2 : goal.returns-then-p-gt2
returns-then-p-gt2 c = sym (length-minute c.args.x (omega (arith, c.if-p-gt3.false, c.if-p-gt2.true)))

pub returns : goal.returns
returns c = sym (length_short c.args.x (omega (arith, c.if-p-gt2.false)))
