-- `order::notes_count` meets its contract. Assumes nothing.
use mathlib.Core.Path.{refl}
use native.Mathlib.Omega.{arith}
use borrow.Author.Tests.{eq-eqb, ne_eqb}
use lib.ListN.{get_or}
use Rattle.order.specs.Steps.{notes_count}
use Rattle.order.proofs.HeadLaws.{notes_here}
use Rattle.order.proofs.notes_count.Goals as goal

pub bounds-tape-at-then-tape-at-eq13 : goal.bounds-tape-at-then-tape-at-eq13
bounds-tape-at-then-tape-at-eq13 c =
    let w = ((notes_here c.args.tape.now c.args.at c.args.end c.requires).marked c.if-tape-at-eq13.true).1 in let r = c.requires.room in omega arith

pub returns-then-tape-at-eq13 : goal.returns-then-tape-at-eq13
unfolding notes_count
returns-then-tape-at-eq13 c = rw (eq-eqb (get_or c.args.tape.now c.args.at 0) 13 c.if-tape-at-eq13.true) refl

pub returns : goal.returns
unfolding notes_count
returns c = rw (ne_eqb (get_or c.args.tape.now c.args.at 0) 13 c.if-tape-at-eq13.false) refl
