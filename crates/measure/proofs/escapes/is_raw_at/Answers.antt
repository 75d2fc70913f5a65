-- `escapes::is_raw_at` meets its contract. The invariant: what is looked through is raw. Assumes nothing.
use Prim.Native.Nat.{◌+◌, ◌-◌}
use mathlib.Core.Path.{◌≡◌, refl, sym, ◌∙◌}
use native.Mathlib.Omega.{arith}
use Rattle.output.proofs.Bools.{never}
use Rattle.text_rules.specs.Escapes.{text_body}
use Rattle.measure.proofs.EscapeLengths.{raw_more}
use Rattle.measure.proofs.escapes.is_raw_at.Goals as goal

pub loop-i-init : goal.loop-i-init
unfolding text_body
loop-i-init c = (omega (arith, c.requires.0), refl)

pub returns-then-not-is_raw_word : goal.returns-then-not-is_raw_word
returns-then-not-is_raw_word c = λ e. never (sym e)

pub loop-i-preserved : goal.loop-i-preserved
loop-i-preserved c =
    let a = c.args in
    (c.loop-i-test.true, raw_more a.s.now a.from c.loop-i.i 8 c.word_at.result (omega arith) c.word_at.ensures (sym c.is_raw_word.ensures ∙ c.if-not-is_raw_word.false) c.loop-i.invariant.1)

pub returns : goal.returns
returns c =
    let a = c.args in
    let e : c.loop-i.i + (a.n - c.loop-i.i) ≡ a.n = omega (arith, c.loop-i.invariant.0) in
    λ r. rw e at (raw_more a.s.now a.from c.loop-i.i (a.n - c.loop-i.i) c.word_at-2.result (omega (arith, c.loop-i-test.false)) c.word_at-2.ensures (sym c.is_raw_word-2.ensures ∙ r) c.loop-i.invariant.1)
