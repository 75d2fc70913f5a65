-- `quoted::plain_bytes_end` meets its contract. Assumes nothing.
use mathlib.Core.Path.{◌≡◌, sym, ◌∙◌}
use native.Mathlib.Omega.{arith}
use Rattle.tokens.proofs.QuotedSteps.{run_more}
use borrow.Author.Rules.{rules}
use Rattle.tokens.proofs.quoted.plain_bytes_end.Goals as goal

pub loop-i-init : goal.loop-i-init
loop-i-init c = (search rules, record { ahead = omega arith; inside = omega arith; each = λ k l u. absurd (omega arith) })

pub returns-then-not-is_plain_byte : goal.returns-then-not-is_plain_byte
returns-then-not-is_plain_byte c = c.loop-i.invariant.1

pub loop-i-preserved : goal.loop-i-preserved
loop-i-preserved c =
    let l = c.loop-i.invariant in
    (l.0, run_more l.1 (omega (arith, c.loop-i-test.true, l.0)) (sym c.is_plain_byte.ensures ∙ c.if-not-is_plain_byte.false))

pub returns : goal.returns
returns c = let e : c.loop-i.i ≡ c.block_end-stop.result = omega arith in rw e at c.loop-i.invariant.1
