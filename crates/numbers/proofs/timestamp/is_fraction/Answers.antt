-- `timestamp::is_fraction` meets its contract. Assumes nothing.
use mathlib.Core.Path.{sym, ◌∙◌}
use Rattle.numbers.specs.Timestamp.{fraction_well}
use Rattle.numbers.proofs.Calendar.{no_field}
use Rattle.numbers.proofs.timestamp.is_fraction.Goals as goal
use Rattle.numbers.proofs.timestamp.is_fraction.Goals.{then-digits-le9, else-digits-le9}

pub returns-else-is_field : goal.returns-else-is_field
unfolding fraction_well
returns-else-is_field c = elim c.if-digits-le9.branch [
  | then-digits-le9 w ↦ rw (sym w.is_field.ensures ∙ sym w.value-is ∙ c.if-is_field.false) c.if-is_field.false
  | else-digits-le9 w ↦ rw (no_field _ 9 _ w.if-digits-le9.false) c.if-is_field.false
]
