-- `order::notes_start` meets its contract. Assumes nothing.
use mathlib.Core.Path.{refl}
use borrow.Author.Tests.{eq-eqb, ne_eqb}
use lib.ListN.{get_or}
use Rattle.order.specs.Steps.{notes_start}
use Rattle.order.proofs.notes_start.Goals as goal

pub returns-then-tape-at-eq13 : goal.returns-then-tape-at-eq13
unfolding notes_start
returns-then-tape-at-eq13 c = rw (eq-eqb (get_or c.args.tape.now c.args.at 0) 13 c.if-tape-at-eq13.true) refl

pub returns : goal.returns
unfolding notes_start
returns c = rw (ne_eqb (get_or c.args.tape.now c.args.at 0) 13 c.if-tape-at-eq13.false) refl
