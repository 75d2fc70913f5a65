-- `escapes::is_raw` meets its contract. The invariant: the whole needs no escape if what is left needs none. Assumes nothing.
use mathlib.Core.Path.{sym, ◌∙◌}
use Prim.Native.Nat.{◌*◌, ◌/◌}
use native.Mathlib.Nat.{zero-add}
use lib.ListN.{length}
use native.Mathlib.Omega.{arith}
use Rattle.text_rules.proofs.DigitLaws.{never}
use Rattle.text_rules.proofs.EscapesLaws.{body_part, body_last}
use Rattle.text_rules.proofs.LaneTests.{raw_word}
use Rattle.text_rules.proofs.escapes.is_raw.Goals as goal

pub returns-then-n-lt8 : goal.returns-then-n-lt8
returns-then-n-lt8 c = c.raw_bytes.ensures

pub overflow_mul-i : goal.overflow_mul-i
overflow_mul-i c = omega arith

pub returns-then-any_escaped : goal.returns-then-any_escaped
returns-then-any_escaped c = λ e. never (sym e)

pub loop-i-init : goal.loop-i-init
loop-i-init c =
    let s = c.args.s.now in
    let i = length s / 32 * 32 in
    (omega arith, λ h. body_part s 0 i (c.any_escaped.ensures c.if-any_escaped.false) (rw (zero-add i) h))

pub overflow_add-i : goal.overflow_add-i
overflow_add-i c = omega (arith, c.loop-i.invariant.0, c.well_formed)

pub word_at-requires : goal.word_at-requires
word_at-requires c = omega (arith, c.loop-i-test.true)

pub is_raw_word-requires : goal.is_raw_word-requires
is_raw_word-requires c = (omega arith, omega arith)

pub returns-then-not-is_raw_word : goal.returns-then-not-is_raw_word
returns-then-not-is_raw_word c = λ e. never (sym e)

pub overflow_add-i-in-loop-i : goal.overflow_add-i-in-loop-i
overflow_add-i-in-loop-i c = omega (arith, c.loop-i-test.true, c.well_formed)

pub loop-i-smaller : goal.loop-i-smaller
loop-i-smaller c = omega (arith, c.loop-i-test.true)

pub loop-i-preserved : goal.loop-i-preserved
loop-i-preserved c =
    let l = c.loop-i in
    let s = c.args.s.now in
    let raw = rw c.word_at.ensures at (raw_word 8 _ (sym c.is_raw_word.ensures ∙ c.if-not-is_raw_word.false)) in
    (omega (arith, c.loop-i-test.true), λ h. l.invariant.1 (body_part s l.i 8 raw h))

pub word_at-requires-2 : goal.word_at-requires-2
word_at-requires-2 c = omega (arith, c.if-n-lt8.false)

pub is_raw_word-requires-2 : goal.is_raw_word-requires-2
is_raw_word-requires-2 c = (omega arith, omega arith)

pub returns : goal.returns
returns c =
    let l = c.loop-i in
    let s = c.args.s.now in
    λ h. l.invariant.1 (body_last s l.i 8 c.loop-i-test.false c.if-n-lt8.false (rw c.word_at-2.ensures at (raw_word 8 _ (sym c.is_raw_word-2.ensures ∙ h))))
