-- `characters::lead` meets its contract: by the leading ones, as `ones_lead` has it for each byte.
-- Assumes nothing.
use Prim.Native.Nat.{◌-◌}
use native.Mathlib.Omega.{arith}
use lib.Count.{leading_le}
use borrow.Author.Tests.{eq-eqb, ne_eqb, le-leb, lt-leb}
use Rattle.characters.proofs.Utf8Ones.{ones_lead}
use Rattle.characters.proofs.lead.Goals as goal

pub overflow_cast-ones : goal.overflow_cast-ones
overflow_cast-ones c = omega (arith, leading_le 8 (255 - c.args.b))

pub returns-then-ones-eq0 : goal.returns-then-ones-eq0
returns-then-ones-eq0 c = simp (eq-eqb _ _ c.if-ones-eq0.true) at (ones_lead c.args.b c.ranges.b.fits)

pub returns-then-ones-eq1 : goal.returns-then-ones-eq1
returns-then-ones-eq1 c = simp (ne_eqb _ _ c.if-ones-eq0.false, eq-eqb _ _ c.if-ones-eq1.true) at (ones_lead c.args.b c.ranges.b.fits)

pub returns-then-ones-le4 : goal.returns-then-ones-le4
returns-then-ones-le4 c =
    simp (ne_eqb _ _ c.if-ones-eq0.false, ne_eqb _ _ c.if-ones-eq1.false, le-leb _ _ c.if-ones-le4.true)
    at (ones_lead c.args.b c.ranges.b.fits)

pub returns : goal.returns
returns c =
    simp (ne_eqb _ _ c.if-ones-eq0.false, ne_eqb _ _ c.if-ones-eq1.false, lt-leb _ _ c.if-ones-le4.false)
    at (ones_lead c.args.b c.ranges.b.fits)
