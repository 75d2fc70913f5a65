-- `walk::separator_length` meets its contract. Assumes nothing.
use borrow.Author.Rules.{rules}
use mathlib.Core.Logic.{inl, inr}
use Rattle.writer.specs.Text.{separator}
use Rattle.measure.proofs.walk.separator_length.Goals as goal

pub returns-in-Top : goal.returns-in-Top
unfolding separator
returns-in-Top c = elim c.in-Top.is [ inl e ↦ rw e (search rules) | inr e ↦ rw e (search rules) ]

pub returns-in-List : goal.returns-in-List
unfolding separator
returns-in-List c = elim c.in-List.is [ inl e ↦ rw e (search rules) | inr e ↦ rw e (search rules) ]
