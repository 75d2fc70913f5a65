-- `timestamp::behind_month` meets its contract. Assumes nothing.
use mathlib.Core.Path.{refl, sym, ◌∙◌}
use native.Mathlib.Omega.{arith}
use Rattle.text_rules.proofs.Places.{next}
use Rattle.numbers.specs.TimestampRead.{behind_month, day_of}
use Rattle.numbers.proofs.TimestampPlaces.{joined_bound}
use Rattle.text_rules.proofs.ReadingLaws.{reads_from, refused}
use borrow.Author.Rules.{rules}
use Rattle.numbers.proofs.timestamp.behind_month.Goals as goal

pub returns-in_err-d : goal.returns-in_err-d
unfolding behind_month
returns-in_err-d c =
    let v = c.in_err-d.ensures in
    rw c.from_residual.ensures (refused (rw v.is))

pub stands-requires : goal.stands-requires
stands-requires c =
    let v = c.in_ok-d.ensures in
    v.place.1

pub overflow_cast-d : goal.overflow_cast-d
overflow_cast-d c =
    let v = c.in_ok-d.ensures in
    record { fits = omega (arith, joined_bound 0 2 _ _ _ v.is) }

pub overflow_add-b : goal.overflow_add-b
overflow_add-b c =
    let i = c.if-stands.ensures.inside refl in
    search rules

pub stands_digit-requires : goal.stands_digit-requires
stands_digit-requires c =
    let i = c.if-stands.ensures.inside refl in
    omega arith

pub time_at-requires : goal.time_at-requires
time_at-requires c =
    let i = c.if-stands.ensures.inside refl in
    omega arith

pub returns-then-stands_digit : goal.returns-then-stands_digit
unfolding behind_month day_of
returns-then-stands_digit c =
    let v = c.in_ok-d.ensures in
    let w = rw c.with_date-t.ensures at c.time_at.ensures in
    rw (v.is, sym c.if-stands.ensures.is, next, sym c.stands_digit.ensures ∙ c.if-stands_digit.true) (reads_from w (omega (arith, v.place.0)))

pub returns-then-stands : goal.returns-then-stands
unfolding behind_month day_of
returns-then-stands c =
    let x = c.args in
    let v = c.in_ok-d.ensures in
    let i = c.if-stands.ensures.inside refl in
    let w = rw c.with_date-t.ensures at (c.checked_at.ensures x.text.now (omega arith)) in
    rw (v.is, sym c.if-stands.ensures.is, next, sym c.stands_digit.ensures ∙ c.if-stands_digit.false) (reads_from w (omega (arith, v.place.0)))

pub returns : goal.returns
unfolding behind_month
returns c =
    let v = c.in_ok-d.ensures in
    refused (rw (v.is, sym c.if-stands.ensures.is))
