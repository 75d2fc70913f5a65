-- `heads::note_at` meets its contract: a symbol is looked for first, and then written. Assumes nothing.
use native.Mathlib.Omega.{arith}
use mathlib.Core.Path.{refl}
use Rattle.reader.proofs.HeadSteps.{note-none, note_alone, note-again, symbol_clash}
use Rattle.reader.proofs.heads.note_at.Goals as goal

pub returns-in_err-seen : goal.returns-in_err-seen
returns-in_err-seen c =
    let k = c.in_err-seen.ensures in
    rw c.from_residual.ensures (note-none _ _ k.0, refl)

pub word_stands-requires : goal.word_stands-requires
word_stands-requires c = c.in_ok-seen.ensures.3

pub returns-then-not-word_stands : goal.returns-then-not-word_stands
returns-then-not-word_stands c =
    let k = c.in_ok-seen.ensures in
    let s = c.word_stands.ensures in
    (note_alone _ _ _ k.1 (rw (c.if-not-word_stands.true) at s.is), refl)

pub returns-in_err-s : goal.returns-in_err-s
returns-in_err-s c =
    let k = c.in_ok-seen.ensures in
    let l = c.in_err-s.ensures in
    absurd (symbol_clash _ _ _ _ k.1 l.0)

pub overflow_add-result : goal.overflow_add-result
overflow_add-result c =
    let s = rw (c.if-not-word_stands.false) at c.word_stands.ensures in
    omega (arith, s.inside)

pub returns : goal.returns
returns c =
    let k = c.in_ok-seen.ensures in
    let l = c.in_ok-s.ensures in
    let s = rw (c.if-not-word_stands.false) at c.word_stands.ensures in
    (l.0, note-again _ _ _ _ _ _ _ k.1 l.1 s.is, omega (arith, k.2), s.inside, l.4)
