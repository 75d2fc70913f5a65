-- `timestamp::format_offset` meets its contract. Assumes nothing.
use mathlib.Core.Path.{sym}
use mir.Syntax.{w16}
use mir.ValLaws.{to_z-of_z}
use Rattle.output.proofs.Laws.{wrote_then}
use Rattle.numbers.proofs.TimestampSigned.{text_unknown, text_west, text_east}
use Rattle.numbers.proofs.timestamp.format_offset.Goals as goal
use Rattle.numbers.proofs.timestamp.format_offset.Goals.{then-offset-lt0, else-offset-lt0}

pub returns-then-offset-eq-UNKNOWN : goal.returns-then-offset-eq-UNKNOWN
returns-then-offset-eq-UNKNOWN c =
    rw (text_unknown c.args.offset c.ranges.offset c.if-offset-eq-UNKNOWN.true) (wrote_then c.put-n.ensures c.format_hour_and_minute.ensures)

pub returns : goal.returns
returns c =
    let z = to_z-of_z w16 c.args.offset c.ranges.offset in
    let m = rw z at c.unsigned_abs-m.ensures.value in
    elim c.if-offset-lt0.branch [
      | then-offset-lt0 w ↦ rw (text_west c.args.offset (rw z at w.if-offset-lt0.true), sym m) (wrote_then (rw w.put-is at c.put-p.ensures) c.format_hour_and_minute-2.ensures)
      | else-offset-lt0 w ↦ rw (text_east c.args.offset (rw z at w.if-offset-lt0.false) c.if-offset-eq-UNKNOWN.false, sym m) (wrote_then (rw w.put-is at c.put-p.ensures) c.format_hour_and_minute-2.ensures)
    ]
