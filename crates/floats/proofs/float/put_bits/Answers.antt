-- `floats::float::put_bits` meets its contract. Assumes nothing.
use mathlib.Core.Path.{sym}
use lib.Ieee.{of_fields, of_bits}
use Rattle.output.specs.Wrote.{le_bytes}
use Rattle.output.proofs.Laws.{wrote_empty}
use Rattle.floats.specs.Float.{float_text}
use Rattle.floats.proofs.FloatLaws.{bits_text, no_text}
use borrow.Author.Rules.{rules}
use Rattle.floats.proofs.float.put_bits.Goals as goal

pub returns-then-b-eq9218868437227405312 : goal.returns-then-b-eq9218868437227405312
unfolding float_text of_bits of_fields le_bytes
returns-then-b-eq9218868437227405312 c = rw c.if-b-eq9218868437227405312.true c.put_le.ensures

pub returns-then-b-eq18442240474082181120 : goal.returns-then-b-eq18442240474082181120
unfolding float_text of_bits of_fields le_bytes
returns-then-b-eq18442240474082181120 c = rw c.if-b-eq18442240474082181120.true c.put_le-then-b-eq18442240474082181120.ensures

pub returns-in-Some : goal.returns-in-Some
returns-in-Some c =
    let v = c.in-Some.ensures in
    rw (bits_text c.args.b _ c.ranges.b.fits (sym v)) c.put_signed.ensures

pub returns : goal.returns
returns c =
    let v = c.in_default.ensures in
    rw (no_text c.args.b c.ranges.b.fits c.requires (sym v) c.if-b-eq9218868437227405312.false c.if-b-eq18442240474082181120.false) (wrote_empty _ _ _ c.bounded.ensures (search rules))
