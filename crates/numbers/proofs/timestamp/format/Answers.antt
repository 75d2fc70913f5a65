-- `timestamp::format` meets its contract. Assumes nothing.
use Prim.Native.Nat.{◌≤◌}
use mathlib.Core.Path.{◌≡◌}
use native.Mathlib.Omega.{arith}
use mir.Syntax.{w16}
use mir.Val.{SFits}
use mir.ValLaws.{to_z-of_z}
use borrow.Author.Rules.{rules}
use borrow.Author.Tests.{ne_eqb}
use Rattle.output.proofs.Laws.{wrote_then}
use Rattle.numbers.specs.Timestamp.{timestamp_text}
use Rattle.numbers.proofs.timestamp.format.Goals as goal

pub returns-in-0 : goal.returns-in-0
unfolding timestamp_text
returns-in-0 c = rw c.in-0.is (wrote_then c.put_padded-p.ensures c.put.ensures)

pub returns-in-1 : goal.returns-in-1
unfolding timestamp_text
returns-in-1 c = rw c.in-1.is (wrote_then c.format_year_and_month-p.ensures c.put-in-1.ensures)

pub returns-in-2 : goal.returns-in-2
unfolding timestamp_text
returns-in-2 c = rw c.in-2.is (wrote_then c.format_date-p.ensures c.put-in-2.ensures)

pub returns-in-3 : goal.returns-in-3
unfolding timestamp_text
returns-in-3 c =
    let f : SFits w16 c.args.t.offset = search rules in
    rw c.in-3.is (wrote_then c.format_date_hour_and_minute-p.ensures (rw (to_z-of_z w16 c.args.t.offset f) at c.format_offset.ensures))

pub returns-in_default : goal.returns-in_default
unfolding timestamp_text
returns-in_default c =
    let f : SFits w16 c.args.t.offset = search rules in
    let p = c.args.t.precision in
    let four : 4 ≤ p = omega arith in
    rw (ne_eqb p 0 (λ (e : p ≡ 0). omega arith), ne_eqb p 1 (λ (e : p ≡ 1). omega arith), ne_eqb p 2 (λ (e : p ≡ 2). omega arith), ne_eqb p 3 (λ (e : p ≡ 3). omega arith)) (wrote_then (wrote_then c.format_to_second-s.ensures c.format_fractional_seconds-e.ensures) (rw (to_z-of_z w16 c.args.t.offset f) at c.format_offset-in_default.ensures))
