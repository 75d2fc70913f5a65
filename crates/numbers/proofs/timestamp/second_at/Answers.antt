-- `timestamp::second_at` meets its contract. Assumes nothing.
use mathlib.Core.Path.{refl, sym}
use native.Mathlib.Omega.{arith}
use Rattle.text_rules.proofs.Places.{next}
use Rattle.numbers.specs.TimestampRead.{second_of}
use Rattle.numbers.proofs.TimestampPlaces.{joined_bound}
use Rattle.text_rules.proofs.ReadingLaws.{reads_from, refused}
use borrow.Author.Rules.{rules}
use Rattle.numbers.proofs.timestamp.second_at.Goals as goal

pub returns-in_err-s : goal.returns-in_err-s
unfolding second_of
returns-in_err-s c =
    let v = c.in_err-s.ensures in
    rw c.from_residual.ensures (refused (rw v.is))

pub stands-requires : goal.stands-requires
stands-requires c =
    let v = c.in_ok-s.ensures in
    v.place.1

pub overflow_add-a : goal.overflow_add-a
overflow_add-a c =
    let i = c.if-stands.ensures.inside refl in
    search rules

pub overflow_cast-s : goal.overflow_cast-s
overflow_cast-s c =
    let v = c.in_ok-s.ensures in
    record { fits = omega (arith, joined_bound 0 2 _ _ _ v.is) }

pub fraction_at-requires : goal.fraction_at-requires
fraction_at-requires c =
    let i = c.if-stands.ensures.inside refl in
    omega arith

pub returns-then-stands : goal.returns-then-stands
unfolding second_of
returns-then-stands c =
    let v = c.in_ok-s.ensures in
    rw (v.is, sym c.if-stands.ensures.is, next) (reads_from c.fraction_at.ensures (omega (arith, v.place.0)))

pub overflow_cast-s-2 : goal.overflow_cast-s-2
overflow_cast-s-2 c =
    let v = c.in_ok-s.ensures in
    record { fits = omega (arith, joined_bound 0 2 _ _ _ v.is) }

pub offset_at-requires : goal.offset_at-requires
offset_at-requires c =
    let v = c.in_ok-s.ensures in
    v.place.1

pub returns : goal.returns
unfolding second_of
returns c =
    let v = c.in_ok-s.ensures in
    let w = rw c.with_time.ensures at c.offset_at.ensures in
    rw (v.is, sym c.if-stands.ensures.is) (reads_from w (omega (arith, v.place.0)))
