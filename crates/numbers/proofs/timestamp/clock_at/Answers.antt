-- `timestamp::clock_at` meets its contract. Assumes nothing.
use mathlib.Core.Path.{refl, sym}
use native.Mathlib.Omega.{arith}
use Rattle.text_rules.proofs.Places.{next}
use Rattle.numbers.specs.TimestampRead.{clock}
use Rattle.numbers.proofs.TimestampPlaces.{joined_bound}
use Rattle.text_rules.proofs.ReadingLaws.{refused}
use borrow.Author.Rules.{rules}
use Rattle.numbers.proofs.timestamp.clock_at.Goals as goal

pub returns-in_err-h : goal.returns-in_err-h
unfolding clock
returns-in_err-h c =
    let v = c.in_err-h.ensures in
    rw c.from_residual.ensures (refused (rw v.is))

pub stands-requires : goal.stands-requires
stands-requires c =
    let v = c.in_ok-h.ensures in
    v.place.1

pub overflow_add-a : goal.overflow_add-a
overflow_add-a c =
    let v = c.in_ok-h.ensures in
    let i = c.if-stands.ensures.inside refl in
    search rules

pub fixed_at-requires-then-stands : goal.fixed_at-requires-then-stands
fixed_at-requires-then-stands c =
    let i = c.if-stands.ensures.inside refl in
    (omega arith, search rules)

pub returns-in_err-m : goal.returns-in_err-m
unfolding clock
returns-in_err-m c =
    let v = c.in_ok-h.ensures in
    let w = c.in_err-m.ensures in
    rw c.from_residual-in_err-m.ensures (refused (rw (v.is, sym c.if-stands.ensures.is, next, w.is)))

pub overflow_cast-result : goal.overflow_cast-result
overflow_cast-result c =
    let v = c.in_ok-h.ensures in
    record { fits = omega (arith, joined_bound 0 2 _ _ _ v.is) }

pub overflow_cast-result-then-stands : goal.overflow_cast-result-then-stands
overflow_cast-result-then-stands c =
    let w = c.in_ok-m.ensures in
    record { fits = omega (arith, joined_bound 0 2 _ _ _ w.is) }

pub returns-then-stands : goal.returns-then-stands
unfolding clock
returns-then-stands c =
    let v = c.in_ok-h.ensures in
    let w = c.in_ok-m.ensures in
    record { is = rw (v.is, sym c.if-stands.ensures.is, next, w.is); place = (omega (arith, v.place.0, w.place.0), w.place.1) }

pub returns : goal.returns
unfolding clock
returns c =
    let v = c.in_ok-h.ensures in
    refused (rw (v.is, sym c.if-stands.ensures.is))
