-- `blanks::top_gap_at` meets its contract. Assumes nothing.
use native.Mathlib.Omega.{arith}
use mathlib.Core.Path.{sym, ◌∙◌}
use Rattle.text_rules.proofs.Places.{byte_at, end-at}
use Rattle.reader.specs.Grammar.{gap}
use Rattle.reader.proofs.blanks.top_gap_at.Goals as goal
use Rattle.reader.proofs.blanks.top_gap_at.Goals.{then-at-text-via-then-at-text, then-at-text-via-else-at-text+then-is_blank}

pub returns-then-at-text : goal.returns-then-at-text
unfolding gap
returns-then-at-text c =
    let x = c.args in
    elim c.then-at-text.branch [
      | then-at-text-via-then-at-text w ↦ (rw (end-at x.text.now x.at w.if-at-text.true), omega arith, omega arith)
      | then-at-text-via-else-at-text+then-is_blank w ↦ (rw (byte_at x.text.now x.at (omega arith), sym w.is_blank.ensures ∙ w.if-is_blank.true), omega arith, omega arith)
    ]

pub returns : goal.returns
unfolding gap
returns c =
    let x = c.args in
    rw (byte_at x.text.now x.at (omega arith), sym c.is_blank.ensures ∙ c.if-is_blank.false)
