-- `quoted::letter_at` meets its contract. Assumes nothing.
use mathlib.Core.Path.{sym}
use mathlib.Core.List.{[], ◌∷◌}
use native.Mathlib.Omega.{arith}
use Rattle.tokens.specs.Quoted.{letter_escape}
use Rattle.text_rules.proofs.EscapesLaws.{byte_at}
use Rattle.tokens.proofs.Keeping.{kept_all}
use Rattle.tokens.proofs.quoted.letter_at.Goals as goal

pub returns-in_err-v : goal.returns-in_err-v
unfolding letter_escape
returns-in_err-v c =
    let a = c.args in
    rw c.from_residual.ensures record { told = (rw (byte_at a.text.now a.at c.requires, sym c.in_err-v.ensures), kept_all) }

pub returns : goal.returns
unfolding letter_escape
returns c =
    let a = c.args in
    record { told = (c.in_ok-v.v ∷ [], rw (byte_at a.text.now a.at c.requires, sym c.in_ok-v.ensures), omega arith, omega arith, c.put-p.ensures) }
