-- `floats::whole::behind_first` meets its contract. Assumes nothing.
use native.Mathlib.Omega.{arith}
use Prim.Native.Nat.{◌+◌, ◌-◌}
use mathlib.Core.Path.{◌≡◌, refl, sym}
use lib.ListN.{length, drop}
use Rattle.text_rules.specs.Digits.{run}
use Rattle.text_rules.proofs.Places.{next}
use Rattle.text_rules.proofs.ReadingLaws.{refused, reads_from}
use Rattle.floats.specs.Whole.{behind_first}
use Rattle.floats.proofs.WholeLaws.{first-zero, first-none, first_some, first_over}
use Rattle.floats.proofs.whole.behind_first.Goals as goal

pub returns-then-m-eq0 : goal.returns-then-m-eq0
returns-then-m-eq0 c = refused (first-zero _ _ (sym c.if-stands.ensures.is) c.if-m-eq0.true)

pub digits_at-requires : goal.digits_at-requires
digits_at-requires c = omega (arith, c.if-stands.ensures.inside refl)

pub overflow_sub-f : goal.overflow_sub-f
overflow_sub-f c =
    let x = c.args in
    let t = x.text.now in
    let v = c.in_ok-k.ensures in
    omega (arith, v.2)

pub returns-then-f-eq0 : goal.returns-then-f-eq0
returns-then-f-eq0 c =
    let x = c.args in
    let t = x.text.now in
    let v = c.in_ok-k.ensures in
    refused (first-none _ _ (sym c.if-stands.ensures.is) (rw (next t x.at) (omega (arith, v.2, c.if-f-eq0.true))))

pub behind_all-requires : goal.behind_all-requires
behind_all-requires c =
    let x = c.args in
    let t = x.text.now in
    let v = c.in_ok-k.ensures in
    v.3

pub returns-then-stands : goal.returns-then-stands
returns-then-stands c =
    let x = c.args in
    let t = x.text.now in
    let v = c.in_ok-k.ensures in
    let n : length (run (drop (x.at + 1) t)) ≡ c.in_ok-k.end - (x.at + 1) = omega (arith, v.2) in
    rw (first_some x.m (drop x.at t) (sym c.if-stands.ensures.is) (omega (arith, c.if-m-eq0.false)) (rw (next t x.at) (omega (arith, v.2, c.if-f-eq0.false))), next t x.at, v.0, v.1, n) (reads_from c.behind_all.ensures (omega (arith, v.2)))

pub returns-in_err-k : goal.returns-in_err-k
returns-in_err-k c =
    let x = c.args in
    let t = x.text.now in
    let v = c.in_err-k.ensures in
    rw c.from_residual.ensures (refused (first_over _ _ (sym c.if-stands.ensures.is) (rw (next t x.at) v)))

pub returns : goal.returns
unfolding behind_first
returns c = rw (sym c.if-stands.ensures.is) c.behind_all-2.ensures
