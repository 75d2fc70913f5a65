-- `quoted::byte_escape_at` meets its contract. Assumes nothing.
use native.Mathlib.Omega.{arith}
use Rattle.tokens.proofs.QuotedSteps.{copies_as, byte_escape-x, byte_escape-letter, escape_end}
use Rattle.tokens.proofs.Keeping.{kept_all}
use Rattle.tokens.proofs.quoted.byte_escape_at.Goals as goal

pub returns-then-at-text : goal.returns-then-at-text
returns-then-at-text c = record { told = ((escape_end _ _ c.if-at-text.true).1, kept_all) }

pub returns-then-text-at-eq120 : goal.returns-then-text-at-eq120
returns-then-text-at-eq120 c =
    let a = c.args in
    copies_as _ (omega arith) (byte_escape-x a.text.now a.at (omega arith) c.if-text-at-eq120.true) c.hex_byte_at.ensures

pub returns : goal.returns
returns c =
    let a = c.args in
    copies_as _ (omega arith) (byte_escape-letter a.text.now a.at (omega arith) c.if-text-at-eq120.false) c.letter_at.ensures
