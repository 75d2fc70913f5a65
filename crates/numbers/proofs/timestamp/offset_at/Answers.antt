-- `timestamp::offset_at` meets its contract. Assumes nothing.
use mathlib.Core.Path.{refl, sym}
use native.Mathlib.Omega.{arith}
use mir.Syntax.{w16}
use mir.ValLaws.{to_z-of_z}
use Rattle.text_rules.proofs.Places.{next}
use Rattle.numbers.specs.TimestampRead.{offset_of}
use Rattle.numbers.proofs.TimestampPlaces.{minutes_bound}
use Rattle.text_rules.proofs.ReadingLaws.{reads_from, refused}
use Rattle.numbers.proofs.timestamp.offset_at.Goals as goal

pub returns-then-stands : goal.returns-then-stands
unfolding offset_of
returns-then-stands c =
    let x = c.args in
    let i = c.if-stands.ensures.inside refl in
    let v = c.checked_at.ensures x.text.now (omega arith) in
    rw (sym c.if-stands.ensures.is, next) (reads_from (rw c.with_offset.ensures at v) (omega arith))

pub minutes_at-requires : goal.minutes_at-requires
minutes_at-requires c =
    let i = c.if-stands-2.ensures.inside refl in
    omega arith

pub returns-in_err-m : goal.returns-in_err-m
unfolding offset_of
returns-in_err-m c =
    let v = c.in_err-m.ensures in
    rw c.from_residual.ensures (refused (rw (sym c.if-stands.ensures.is, sym c.if-stands-2.ensures.is, next, v.is)))

pub east_of-requires : goal.east_of-requires
east_of-requires c =
    let v = c.in_ok-m.ensures in
    minutes_bound _ _ _ v.is

pub returns-then-stands-2 : goal.returns-then-stands-2
unfolding offset_of
returns-then-stands-2 c =
    let x = c.args in
    let v = c.in_ok-m.ensures in
    let o = rw (to_z-of_z w16 c.east_of.result (record { sfits = c.east_of.type_inv }), c.east_of.ensures) at c.with_offset-then-stands-2.ensures in
    let w = rw o at (c.checked_at-then-stands-2.ensures x.text.now v.place.1) in
    rw (sym c.if-stands.ensures.is, sym c.if-stands-2.ensures.is, next, v.is) (reads_from w (omega (arith, v.place.0)))

pub minutes_at-requires-then-stands-3 : goal.minutes_at-requires-then-stands-3
minutes_at-requires-then-stands-3 c =
    let i = c.if-stands-3.ensures.inside refl in
    omega arith

pub returns-in_err-m-2 : goal.returns-in_err-m-2
unfolding offset_of
returns-in_err-m-2 c =
    let v = c.in_err-m-2.ensures in
    rw c.from_residual-in_err-m-2.ensures (refused (rw (sym c.if-stands.ensures.is, sym c.if-stands-2.ensures.is, sym c.if-stands-3.ensures.is, next, v.is)))

pub west_of-requires : goal.west_of-requires
west_of-requires c =
    let v = c.in_ok-m-2.ensures in
    minutes_bound _ _ _ v.is

pub returns-then-stands-3 : goal.returns-then-stands-3
unfolding offset_of
returns-then-stands-3 c =
    let x = c.args in
    let v = c.in_ok-m-2.ensures in
    let o = rw (to_z-of_z w16 c.west_of.result (record { sfits = c.west_of.type_inv }), c.west_of.ensures) at c.with_offset-then-stands-3.ensures in
    let w = rw o at (c.checked_at-then-stands-3.ensures x.text.now v.place.1) in
    rw (sym c.if-stands.ensures.is, sym c.if-stands-2.ensures.is, sym c.if-stands-3.ensures.is, next, v.is) (reads_from w (omega (arith, v.place.0)))

pub returns : goal.returns
unfolding offset_of
returns c =
    refused (rw (sym c.if-stands.ensures.is, sym c.if-stands-2.ensures.is, sym c.if-stands-3.ensures.is))
