-- `floats::whole::whole_at` meets its contract. Assumes nothing.
use mathlib.Core.Path.{sym, ◌∙◌}
use native.Mathlib.Omega.{arith}
use Prim.Native.Nat.{◌<◌}
use lib.ListN.{length}
use Rattle.text_rules.proofs.Places.{byte_at, end-at}
use Rattle.text_rules.proofs.DigitLaws.{digit_range}
use Rattle.text_rules.proofs.ReadingLaws.{refused, reads_from}
use Rattle.floats.specs.Whole.{whole_number}
use Rattle.floats.proofs.whole.whole_at.Goals as goal

pub returns-then-at-text : goal.returns-then-at-text
unfolding whole_number
returns-then-at-text c =
    let x = c.args in
    refused (rw (end-at x.text.now x.at c.if-at-text.true))

pub returns-then-not-is_digit : goal.returns-then-not-is_digit
unfolding whole_number
returns-then-not-is_digit c =
    let x = c.args in
    let l : x.at < length x.text.now = omega (arith, c.requires, c.if-at-text.false) in
    refused (rw (byte_at x.text.now x.at l, sym c.is_digit.ensures ∙ c.if-not-is_digit.true))

pub overflow_sub-b : goal.overflow_sub-b
overflow_sub-b c = (digit_range _ (sym c.is_digit.ensures ∙ c.if-not-is_digit.false)).0

pub returns : goal.returns
unfolding whole_number
returns c =
    let x = c.args in
    let l : x.at < length x.text.now = omega (arith, c.requires, c.if-at-text.false) in
    rw (byte_at x.text.now x.at l, sym c.is_digit.ensures ∙ c.if-not-is_digit.false) (reads_from c.behind_first.ensures (omega arith))
