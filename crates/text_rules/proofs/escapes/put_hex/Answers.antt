-- `escapes::put_hex` meets its contract. Assumes nothing.
use mathlib.Core.Path.{sym}
use native.Mathlib.Omega.{arith}
use Rattle.output.proofs.Words.{le-sum-4}
use Rattle.text_rules.proofs.escapes.put_hex.Goals as goal

pub returns : goal.returns
returns c =
    let h = c.hex_digit.ensures in
    let l = c.hex_digit-2.ensures in
    rw (sym h.0, sym l.0, sym (le-sum-4 92 120 _ _ (omega arith) (omega arith) h.1 l.1)) c.put_le.ensures
