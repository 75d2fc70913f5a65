-- `blanks::sexp_gap_at` meets its contract. Assumes nothing.
use native.Mathlib.Omega.{arith}
use mathlib.Core.Path.{sym, ◌∙◌}
use Rattle.text_rules.proofs.Places.{end-at}
use Rattle.reader.specs.Grammar.{gap}
use Rattle.reader.proofs.Between.{gap_close, gap-blank, gap_other}
use Rattle.reader.proofs.blanks.sexp_gap_at.Goals as goal

pub returns-then-at-text : goal.returns-then-at-text
unfolding gap
returns-then-at-text c =
    let x = c.args in
    rw (end-at x.text.now x.at c.if-at-text.true)

pub returns-in-41 : goal.returns-in-41
returns-in-41 c =
    let x = c.args in
    (gap_close x.text.now x.at (omega arith) c.in-41.is, omega arith, omega arith)

pub returns-then-is_blank : goal.returns-then-is_blank
returns-then-is_blank c =
    let x = c.args in
    (gap-blank x.text.now x.at (omega arith) (sym c.is_blank.ensures ∙ c.if-is_blank.true), omega arith, omega arith)

pub returns-else-is_blank : goal.returns-else-is_blank
returns-else-is_blank c =
    let x = c.args in
    gap_other x.text.now x.at (omega arith) (omega arith) (sym c.is_blank.ensures ∙ c.if-is_blank.false)
