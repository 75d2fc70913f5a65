-- `timestamp::checked_at` meets its contract. Assumes nothing.
use mathlib.Core.Path.{sym, ◌∙◌}
use native.Mathlib.Omega.{arith}
use Rattle.numbers.specs.TimestampRead.{checked}
use Rattle.text_rules.proofs.ReadingLaws.{refused}
use Rattle.numbers.proofs.timestamp.checked_at.Goals as goal

pub returns-then-is_well_formed : goal.returns-then-is_well_formed
unfolding checked
returns-then-is_well_formed c = λ text h. record { is = rw (sym c.is_well_formed.ensures ∙ c.if-is_well_formed.true); place = (omega arith, h) }

pub returns : goal.returns
unfolding checked
returns c = λ text h. refused (rw (sym c.is_well_formed.ensures ∙ c.if-is_well_formed.false))
