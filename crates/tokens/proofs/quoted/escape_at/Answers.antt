-- `quoted::escape_at` meets its contract. Assumes nothing.
use native.Mathlib.Omega.{arith}
use Rattle.tokens.proofs.QuotedSteps.{copies_as, escape-x, escape-u, escape-U, escape-letter, escape_end}
use Rattle.tokens.proofs.Keeping.{kept_all}
use Rattle.tokens.proofs.quoted.escape_at.Goals as goal

pub returns-then-at-text : goal.returns-then-at-text
returns-then-at-text c = record { told = ((escape_end _ _ c.if-at-text.true).0, kept_all) }

pub returns-in-120 : goal.returns-in-120
returns-in-120 c =
    let a = c.args in
    copies_as _ (omega arith) (escape-x a.text.now a.at (omega arith) c.in-120.is) c.scalar_at.ensures

pub returns-in-117 : goal.returns-in-117
returns-in-117 c =
    let a = c.args in
    copies_as _ (omega arith) (escape-u a.text.now a.at (omega arith) c.in-117.is) c.scalar_at-in-117.ensures

pub returns-in-85 : goal.returns-in-85
returns-in-85 c =
    let a = c.args in
    copies_as _ (omega arith) (escape-U a.text.now a.at (omega arith) c.in-85.is) c.scalar_at-in-85.ensures

pub returns-in_default : goal.returns-in_default
returns-in_default c =
    let a = c.args in
    copies_as _ (omega arith) (escape-letter a.text.now a.at (omega arith) (omega arith) (omega arith) (omega arith)) c.letter_at.ensures
