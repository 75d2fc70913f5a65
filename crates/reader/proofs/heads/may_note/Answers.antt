-- `heads::may_note` meets its contract. Assumes nothing.
use native.Mathlib.Omega.{arith}
use mathlib.Core.Path.{sym, ◌∙◌}
use Rattle.text_rules.proofs.DigitLaws.{never}
use Rattle.reader.proofs.HeadSteps.{note-end, note-other, note_bare}
use Rattle.reader.proofs.heads.may_note.Goals as goal

pub returns-then-at-text : goal.returns-then-at-text
returns-then-at-text c =
    let x = c.args in
    record { none_here = λ h is_raw. note-end is_raw x.text.now x.at c.if-at-text.true }

pub returns-then-b-eq39 : goal.returns-then-b-eq39
returns-then-b-eq39 c = record { none_here = λ h is_raw. never h }

pub returns-then-not-is_start : goal.returns-then-not-is_start
returns-then-not-is_start c =
    let x = c.args in
    record { none_here = λ h is_raw. note-other is_raw x.text.now x.at (omega (arith, c.if-at-text.false, c.requires)) c.if-b-eq39.false (sym c.is_start.ensures ∙ c.if-not-is_start.true) }

pub returns : goal.returns
returns c =
    let x = c.args in
    let s = c.word_stands.ensures in
    record { none_here = λ h is_raw. note_bare is_raw x.text.now x.at (omega (arith, c.if-at-text.false, c.requires)) c.if-b-eq39.false c.word_end-e.ensures (rw h at s.is) }
