-- `timestamp::time_at` meets its contract. Assumes nothing.
use mathlib.Core.Path.{refl, sym}
use native.Mathlib.Omega.{arith}
use Rattle.text_rules.proofs.Places.{next}
use Rattle.numbers.specs.TimestampRead.{time_of}
use Rattle.text_rules.proofs.ReadingLaws.{reads_from, refused}
use borrow.Author.Rules.{rules}
use Rattle.numbers.proofs.timestamp.time_at.Goals as goal

pub returns-in_err-h : goal.returns-in_err-h
unfolding time_of
returns-in_err-h c =
    let v = c.in_err-h.ensures in
    rw c.from_residual.ensures (refused (rw v.is))

pub stands-requires : goal.stands-requires
stands-requires c =
    let v = c.in_ok-h.ensures in
    v.place.1

pub overflow_add-a : goal.overflow_add-a
overflow_add-a c =
    let i = c.if-stands.ensures.inside refl in
    search rules

pub second_at-requires : goal.second_at-requires
second_at-requires c =
    let i = c.if-stands.ensures.inside refl in
    omega arith

pub returns-then-stands : goal.returns-then-stands
unfolding time_of
returns-then-stands c =
    let v = c.in_ok-h.ensures in
    rw (v.is, sym c.if-stands.ensures.is, next) (reads_from c.second_at.ensures (omega (arith, v.place.0)))

pub offset_at-requires : goal.offset_at-requires
offset_at-requires c =
    let v = c.in_ok-h.ensures in
    v.place.1

pub returns : goal.returns
unfolding time_of
returns c =
    let v = c.in_ok-h.ensures in
    let w = rw c.with_time.ensures at c.offset_at.ensures in
    rw (v.is, sym c.if-stands.ensures.is) (reads_from w (omega (arith, v.place.0)))
