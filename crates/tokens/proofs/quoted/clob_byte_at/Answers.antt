-- `quoted::clob_byte_at` meets its contract. Assumes nothing.
use native.Mathlib.Omega.{arith}
use Rattle.tokens.proofs.QuotedSteps.{copies_as, clob_byte_escape, clob_byte_raw, clob_byte_low, clob_byte_high}
use Rattle.tokens.proofs.Keeping.{kept_all}
use Rattle.tokens.proofs.quoted.clob_byte_at.Goals as goal

pub returns-in-92 : goal.returns-in-92
returns-in-92 c =
    let a = c.args in
    copies_as _ (omega arith) (clob_byte_escape a.text.now a.at c.requires c.in-92.is) c.byte_escape_at.ensures

pub returns-in-32-to-126 : goal.returns-in-32-to-126
returns-in-32-to-126 c =
    let a = c.args in
    record { told = (_, clob_byte_raw a.text.now a.at c.requires (omega arith) (omega arith) (omega arith), omega arith, omega arith, c.put-p.ensures) }

pub returns-in_default : goal.returns-in_default
returns-in_default c = record { told = (clob_byte_low c.args.text.now c.args.at c.requires (omega arith) (omega arith), kept_all) }

pub returns-in_default-2 : goal.returns-in_default-2
returns-in_default-2 c = record { told = (clob_byte_high c.args.text.now c.args.at c.requires (omega arith) (omega arith), kept_all) }
