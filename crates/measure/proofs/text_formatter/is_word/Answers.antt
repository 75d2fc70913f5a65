-- `text_formatter::is_word` meets its contract. Assumes nothing.
use Prim.Native.Nat.{◌-◌}
use mathlib.Core.Path.{◌≡◌, sym, ◌∙◌}
use native.Mathlib.Omega.{arith}
use Rattle.measure.proofs.SymbolLengths.{part_left, part-last}
use Rattle.measure.proofs.text_formatter.is_word.Goals as goal

pub loop-i-init : goal.loop-i-init
loop-i-init c =
    let a = c.args in
    let y : a.n - 0 ≡ a.n = omega arith in
    (omega (arith, c.requires.0), rw y)

pub overflow_add-i : goal.overflow_add-i
overflow_add-i c = record { fits = omega (arith, c.loop-i.invariant.0, c.requires.1, c.well_formed) }

pub word_at-requires : goal.word_at-requires
word_at-requires c = omega (arith, c.loop-i-test.true, c.requires.1)

pub is_identifier_word-requires : goal.is_identifier_word-requires
is_identifier_word-requires c = (omega arith, omega arith)

pub returns-then-not-is_identifier_word : goal.returns-then-not-is_identifier_word
returns-then-not-is_identifier_word c =
    let a = c.args in
    let w = c.if-not-is_identifier_word.true in
    sym (c.loop-i.invariant.1 ∙ part_left a.s.now a.n c.loop-i.i c.word_at.result (omega (arith, c.loop-i-test.true)) c.word_at.ensures ∙ rw (sym c.is_identifier_word.ensures ∙ w))

pub overflow_add-i-in-loop-i : goal.overflow_add-i-in-loop-i
overflow_add-i-in-loop-i c = record { fits = omega (arith, c.loop-i-test.true, c.requires.1, c.well_formed) }

pub loop-i-smaller : goal.loop-i-smaller
loop-i-smaller c = omega (arith, c.loop-i-test.true)

pub loop-i-preserved : goal.loop-i-preserved
loop-i-preserved c =
    let a = c.args in
    let w = c.if-not-is_identifier_word.false in
    (c.loop-i-test.true, c.loop-i.invariant.1 ∙ part_left a.s.now a.n c.loop-i.i c.word_at.result (omega (arith, c.loop-i-test.true)) c.word_at.ensures ∙ rw (sym c.is_identifier_word.ensures ∙ w))

pub word_at-requires-2 : goal.word_at-requires-2
word_at-requires-2 c = omega (arith, c.loop-i.invariant.0, c.requires.1)

pub overflow_sub-n : goal.overflow_sub-n
overflow_sub-n c = omega (arith, c.loop-i.invariant.0)

pub is_identifier_word-requires-2 : goal.is_identifier_word-requires-2
is_identifier_word-requires-2 c = (omega (arith, c.loop-i.invariant.0), omega (arith, c.loop-i-test.false))

pub returns : goal.returns
returns c =
    let a = c.args in
    c.is_identifier_word-2.ensures ∙ part-last a.s.now c.loop-i.i (a.n - c.loop-i.i) c.word_at-2.result (omega (arith, c.loop-i-test.false)) c.word_at-2.ensures ∙ sym c.loop-i.invariant.1
