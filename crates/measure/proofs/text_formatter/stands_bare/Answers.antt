-- `text_formatter::stands_bare` meets its contract. Assumes nothing.
use mathlib.Core.Path.{sym, ◌∙◌}
use native.Mathlib.Omega.{arith}
use Rattle.measure.proofs.SymbolLengths.{letter_bare, dollar_bare, long_keyword}
use Rattle.measure.proofs.text_formatter.stands_bare.Goals as goal

pub returns-then-text-gt5 : goal.returns-then-text-gt5
returns-then-text-gt5 c =
    λ p h. rw (long_keyword c.args.text.now c.if-text-gt5.true) at (letter_bare c.args.text.now c.requires p h c.if-text-ne36.true)

pub returns-then-text-ne36 : goal.returns-then-text-ne36
returns-then-text-ne36 c = λ p h. rw c.token_is_keyword.ensures (letter_bare c.args.text.now c.requires p h c.if-text-ne36.true)

pub returns-then-token_resembles_symbol_id : goal.returns-then-token_resembles_symbol_id
returns-then-token_resembles_symbol_id c =
    λ p h. rw (sym c.token_resembles_symbol_id.ensures ∙ c.if-token_resembles_symbol_id.true) at (dollar_bare c.args.text.now c.requires p h (omega (arith, c.if-text-ne36.false)))

pub returns : goal.returns
returns c =
    λ p h. rw c.token_resembles_version_marker.ensures (rw (sym c.token_resembles_symbol_id.ensures ∙ c.if-token_resembles_symbol_id.false) at (dollar_bare c.args.text.now c.requires p h (omega (arith, c.if-text-ne36.false))))
