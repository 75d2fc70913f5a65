-- `timestamp::month_at` meets its contract. Assumes nothing.
use mathlib.Core.Path.{refl, sym}
use native.Mathlib.Omega.{arith}
use Rattle.text_rules.proofs.Places.{next}
use Rattle.numbers.specs.TimestampRead.{behind_year}
use Rattle.numbers.proofs.TimestampPlaces.{joined_bound}
use Rattle.text_rules.proofs.ReadingLaws.{reads_from, refused}
use borrow.Author.Rules.{rules}
use Rattle.numbers.proofs.timestamp.month_at.Goals as goal

pub returns-in_err-m : goal.returns-in_err-m
unfolding behind_year
returns-in_err-m c =
    let v = c.in_err-m.ensures in
    rw c.from_residual.ensures (refused (rw v.is))

pub stands-requires : goal.stands-requires
stands-requires c =
    let v = c.in_ok-m.ensures in
    v.place.1

pub overflow_cast-m : goal.overflow_cast-m
overflow_cast-m c =
    let v = c.in_ok-m.ensures in
    record { fits = omega (arith, joined_bound 0 2 _ _ _ v.is) }

pub overflow_add-a : goal.overflow_add-a
overflow_add-a c =
    let i = c.if-stands.ensures.inside refl in
    search rules

pub returns-then-stands : goal.returns-then-stands
unfolding behind_year
returns-then-stands c =
    let x = c.args in
    let v = c.in_ok-m.ensures in
    let i = c.if-stands.ensures.inside refl in
    let w = rw c.with_date.ensures at (c.checked_at.ensures x.text.now (omega arith)) in
    rw (v.is, sym c.if-stands.ensures.is, next) (reads_from w (omega (arith, v.place.0)))

pub stands-requires-2 : goal.stands-requires-2
stands-requires-2 c =
    let v = c.in_ok-m.ensures in
    v.place.1

pub overflow_add-a-then-stands-2 : goal.overflow_add-a-then-stands-2
overflow_add-a-then-stands-2 c =
    let i = c.if-stands-2.ensures.inside refl in
    search rules

pub overflow_cast-m-then-stands-2 : goal.overflow_cast-m-then-stands-2
overflow_cast-m-then-stands-2 c =
    let v = c.in_ok-m.ensures in
    record { fits = omega (arith, joined_bound 0 2 _ _ _ v.is) }

pub behind_month-requires : goal.behind_month-requires
behind_month-requires c =
    let i = c.if-stands-2.ensures.inside refl in
    omega arith

pub returns-then-stands-2 : goal.returns-then-stands-2
unfolding behind_year
returns-then-stands-2 c =
    let v = c.in_ok-m.ensures in
    rw (v.is, sym c.if-stands.ensures.is, sym c.if-stands-2.ensures.is, next) (reads_from c.behind_month.ensures (omega (arith, v.place.0)))

pub returns : goal.returns
unfolding behind_year
returns c =
    let v = c.in_ok-m.ensures in
    refused (rw (v.is, sym c.if-stands.ensures.is, sym c.if-stands-2.ensures.is))
