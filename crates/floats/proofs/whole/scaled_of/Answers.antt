-- `floats::whole::scaled_of` meets its contract. Assumes nothing.
use native.Mathlib.Omega.{arith}
use native.Mathlib.Nat.{le-div_iff_mul-le, div-lt_iff_lt-mul}
use Rattle.text_rules.proofs.ReadingLaws.{refused}
use Rattle.floats.proofs.WholeLaws.{read_here, scaled-zero, scaled-none, scaled_ten, scaled_far, scaled-part, scaled_most, scaled-some}
use Rattle.floats.proofs.whole.scaled_of.Goals as goal
use Rattle.floats.proofs.whole.scaled_of.Goals.{else-m-eq0-via-then-m-eq0+else-e-eq0, else-m-eq0-via-else-m-eq0, then-m-eq0-2-via-then-m-eq0-2, then-m-eq0-2-via-else-m-eq0-2+then-e-gt15}

pub returns-then-e-eq0 : goal.returns-then-e-eq0
returns-then-e-eq0 c = λ text l. read_here text _ _ 0 (scaled-zero _ _ _ _ c.if-m-eq0.true c.if-e-eq0.true) l

pub returns-then-m-eq0-2 : goal.returns-then-m-eq0-2
returns-then-m-eq0-2 c = λ text l. refused (elim c.then-m-eq0-2.branch [
  | then-m-eq0-2-via-then-m-eq0-2 w ↦ (elim c.else-m-eq0.branch [
    | else-m-eq0-via-then-m-eq0+else-e-eq0 u ↦ scaled-none _ _ _ _ u.if-m-eq0.true (omega (arith, u.if-e-eq0.false))
    | else-m-eq0-via-else-m-eq0 u ↦ scaled_ten _ _ _ _ (omega (arith, u.if-m-eq0.false)) w.if-m-eq0-2.true
  ])
  | then-m-eq0-2-via-else-m-eq0-2+then-e-gt15 w ↦ scaled_far _ _ _ _ w.if-e-gt15.true
])

pub returns-then-k-f : goal.returns-then-k-f
returns-then-k-f c =
    λ text l. refused (scaled-part _ _ _ _ (omega (arith, c.if-m-eq0-2.false)) (omega (arith, c.if-k-f.true)))

pub returns-then-p-m : goal.returns-then-p-m
returns-then-p-m c =
    let p = c.pow10-p.ensures in
    let h = rw p.0 at ((div-lt_iff_lt-mul p.1).0 c.if-p-m.true) in
    λ text l. refused (scaled_most _ _ _ _ (omega (arith, c.if-m-eq0-2.false)) h)

pub overflow_mul-result : goal.overflow_mul-result
overflow_mul-result c =
    let p = c.pow10-p.ensures in
    let h = (le-div_iff_mul-le p.1).0 c.if-p-m.false in
    record { fits = omega (arith, h) }

pub returns : goal.returns
returns c =
    let p = c.pow10-p.ensures in
    let h = rw p.0 at ((le-div_iff_mul-le p.1).0 c.if-p-m.false) in
    λ text l. rw p.0 (read_here text _ _ _ (scaled-some _ _ _ _ (omega (arith, c.if-m-eq0-2.false)) (omega (arith, c.if-k-f.false)) (omega (arith, c.if-e-gt15.false)) h) l)
