-- `blanks::skip_blanks` meets its contract. Assumes nothing.
use mathlib.Core.Path.{refl, sym, ◌∙◌}
use native.Mathlib.Omega.{arith}
use Rattle.reader.proofs.Between.{skip_stop, skip-blank, skip-none}
use Rattle.reader.proofs.blanks.skip_blanks.Goals as goal

pub loop-i-init : goal.loop-i-init
loop-i-init c = (omega arith, omega arith, refl)

pub returns-then-not-is_blank : goal.returns-then-not-is_blank
returns-then-not-is_blank c =
    let t = c.args.text.now in
    let l = c.loop-i in
    record { ahead = omega arith; inside = omega arith; is = sym (skip_stop t l.i (omega arith) (sym c.is_blank.ensures ∙ c.if-not-is_blank.true)) ∙ l.invariant.2 }

pub loop-i-preserved : goal.loop-i-preserved
loop-i-preserved c =
    let t = c.args.text.now in
    let l = c.loop-i in
    (omega arith, omega arith, sym (skip-blank t l.i (omega arith) (sym c.is_blank.ensures ∙ c.if-not-is_blank.false)) ∙ l.invariant.2)

pub returns : goal.returns
returns c =
    let t = c.args.text.now in
    let l = c.loop-i in
    record { ahead = omega arith; inside = omega arith; is = sym (skip-none t l.i (omega arith)) ∙ l.invariant.2 }
