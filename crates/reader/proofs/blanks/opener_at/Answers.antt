-- `blanks::opener_at` meets its contract. Assumes nothing.
use native.Mathlib.Omega.{arith}
use mathlib.Core.Path.{sym, ◌∙◌}
use lib.ListN.{get_or}
use borrow.Author.Tests.{ne_eqb}
use Rattle.text_rules.proofs.Places.{byte_at, end-at}
use Rattle.reader.specs.Grammar.{opens, opener}
use Rattle.reader.proofs.blanks.opener_at.Goals as goal

pub returns-then-at-text : goal.returns-then-at-text
unfolding opens
returns-then-at-text c =
    let x = c.args in
    rw (end-at x.text.now x.at c.if-at-text.true)

pub returns-in-91 : goal.returns-in-91
unfolding opens opener
returns-in-91 c =
    let x = c.args in
    rw (byte_at x.text.now x.at (omega arith), c.in-91.is)

pub returns-in-40 : goal.returns-in-40
unfolding opens opener
returns-in-40 c =
    let x = c.args in
    rw (byte_at x.text.now x.at (omega arith), c.in-40.is)

pub returns-in-123 : goal.returns-in-123
unfolding opens opener
returns-in-123 c =
    let x = c.args in
    rw (byte_at x.text.now x.at (omega arith), c.in-123.is) (simp (sym c.stands.ensures.is ∙ c.if-not-stands.true))

pub returns-in_default : goal.returns-in_default
unfolding opens opener
returns-in_default c =
    let x = c.args in
    rw (byte_at x.text.now x.at (omega arith), c.in-123.is) (simp (sym c.stands.ensures.is ∙ c.if-not-stands.false))

pub returns-in_default-2 : goal.returns-in_default-2
unfolding opens opener
returns-in_default-2 c =
    let x = c.args in
    rw (byte_at x.text.now x.at (omega arith)) (simp (ne_eqb (get_or x.text.now x.at 0) 91 (λ e. omega arith), ne_eqb (get_or x.text.now x.at 0) 40 (λ e. omega arith), ne_eqb (get_or x.text.now x.at 0) 123 (λ e. omega arith)))
