-- `ion::words::word_of` meets its contract: each way out by the tests that led there. Assumes nothing.
use Rattle.ion.specs.Words.{command_of}
use Rattle.ion.proofs.words.word_of.Goals as goal

pub returns-then-same_word : goal.returns-then-same_word
unfolding command_of
returns-then-same_word c = rw (← c.same_word.ensures, c.if-same_word.true)

pub returns-then-same_word-2 : goal.returns-then-same_word-2
unfolding command_of
returns-then-same_word-2 c = rw (← c.same_word.ensures, c.if-same_word.false, ← c.same_word-2.ensures, c.if-same_word-2.true)

pub returns-then-same_word-3 : goal.returns-then-same_word-3
unfolding command_of
returns-then-same_word-3 c = rw (← c.same_word.ensures, c.if-same_word.false, ← c.same_word-2.ensures, c.if-same_word-2.false, ← c.same_word-3.ensures, c.if-same_word-3.true)

pub returns-then-same_word-4 : goal.returns-then-same_word-4
unfolding command_of
returns-then-same_word-4 c = rw (← c.same_word.ensures, c.if-same_word.false, ← c.same_word-2.ensures, c.if-same_word-2.false, ← c.same_word-3.ensures, c.if-same_word-3.false, ← c.same_word-4.ensures, c.if-same_word-4.true)

pub returns-then-same_word-5 : goal.returns-then-same_word-5
unfolding command_of
returns-then-same_word-5 c = rw (← c.same_word.ensures, c.if-same_word.false, ← c.same_word-2.ensures, c.if-same_word-2.false, ← c.same_word-3.ensures, c.if-same_word-3.false, ← c.same_word-4.ensures, c.if-same_word-4.false, ← c.same_word-5.ensures, c.if-same_word-5.true)

pub returns-then-same_word-6 : goal.returns-then-same_word-6
unfolding command_of
returns-then-same_word-6 c = rw (← c.same_word.ensures, c.if-same_word.false, ← c.same_word-2.ensures, c.if-same_word-2.false, ← c.same_word-3.ensures, c.if-same_word-3.false, ← c.same_word-4.ensures, c.if-same_word-4.false, ← c.same_word-5.ensures, c.if-same_word-5.false, ← c.same_word-6.ensures, c.if-same_word-6.true)

pub returns-then-same_word-7 : goal.returns-then-same_word-7
unfolding command_of
returns-then-same_word-7 c = rw (← c.same_word.ensures, c.if-same_word.false, ← c.same_word-2.ensures, c.if-same_word-2.false, ← c.same_word-3.ensures, c.if-same_word-3.false, ← c.same_word-4.ensures, c.if-same_word-4.false, ← c.same_word-5.ensures, c.if-same_word-5.false, ← c.same_word-6.ensures, c.if-same_word-6.false, ← c.same_word-7.ensures, c.if-same_word-7.true)

pub returns-then-same_word-8 : goal.returns-then-same_word-8
unfolding command_of
returns-then-same_word-8 c = rw (← c.same_word.ensures, c.if-same_word.false, ← c.same_word-2.ensures, c.if-same_word-2.false, ← c.same_word-3.ensures, c.if-same_word-3.false, ← c.same_word-4.ensures, c.if-same_word-4.false, ← c.same_word-5.ensures, c.if-same_word-5.false, ← c.same_word-6.ensures, c.if-same_word-6.false, ← c.same_word-7.ensures, c.if-same_word-7.false, ← c.same_word-8.ensures, c.if-same_word-8.true)

pub returns-then-same_word-9 : goal.returns-then-same_word-9
unfolding command_of
returns-then-same_word-9 c = rw (← c.same_word.ensures, c.if-same_word.false, ← c.same_word-2.ensures, c.if-same_word-2.false, ← c.same_word-3.ensures, c.if-same_word-3.false, ← c.same_word-4.ensures, c.if-same_word-4.false, ← c.same_word-5.ensures, c.if-same_word-5.false, ← c.same_word-6.ensures, c.if-same_word-6.false, ← c.same_word-7.ensures, c.if-same_word-7.false, ← c.same_word-8.ensures, c.if-same_word-8.false, ← c.same_word-9.ensures, c.if-same_word-9.true)

pub returns-then-same_word-10 : goal.returns-then-same_word-10
unfolding command_of
returns-then-same_word-10 c = rw (← c.same_word.ensures, c.if-same_word.false, ← c.same_word-2.ensures, c.if-same_word-2.false, ← c.same_word-3.ensures, c.if-same_word-3.false, ← c.same_word-4.ensures, c.if-same_word-4.false, ← c.same_word-5.ensures, c.if-same_word-5.false, ← c.same_word-6.ensures, c.if-same_word-6.false, ← c.same_word-7.ensures, c.if-same_word-7.false, ← c.same_word-8.ensures, c.if-same_word-8.false, ← c.same_word-9.ensures, c.if-same_word-9.false, ← c.same_word-10.ensures, c.if-same_word-10.true)

pub returns-then-same_word-11 : goal.returns-then-same_word-11
unfolding command_of
returns-then-same_word-11 c = rw (← c.same_word.ensures, c.if-same_word.false, ← c.same_word-2.ensures, c.if-same_word-2.false, ← c.same_word-3.ensures, c.if-same_word-3.false, ← c.same_word-4.ensures, c.if-same_word-4.false, ← c.same_word-5.ensures, c.if-same_word-5.false, ← c.same_word-6.ensures, c.if-same_word-6.false, ← c.same_word-7.ensures, c.if-same_word-7.false, ← c.same_word-8.ensures, c.if-same_word-8.false, ← c.same_word-9.ensures, c.if-same_word-9.false, ← c.same_word-10.ensures, c.if-same_word-10.false, ← c.same_word-11.ensures, c.if-same_word-11.true)

pub returns-then-same_word-12 : goal.returns-then-same_word-12
unfolding command_of
returns-then-same_word-12 c = rw (← c.same_word.ensures, c.if-same_word.false, ← c.same_word-2.ensures, c.if-same_word-2.false, ← c.same_word-3.ensures, c.if-same_word-3.false, ← c.same_word-4.ensures, c.if-same_word-4.false, ← c.same_word-5.ensures, c.if-same_word-5.false, ← c.same_word-6.ensures, c.if-same_word-6.false, ← c.same_word-7.ensures, c.if-same_word-7.false, ← c.same_word-8.ensures, c.if-same_word-8.false, ← c.same_word-9.ensures, c.if-same_word-9.false, ← c.same_word-10.ensures, c.if-same_word-10.false, ← c.same_word-11.ensures, c.if-same_word-11.false, ← c.same_word-12.ensures, c.if-same_word-12.true)

pub returns-then-same_word-13 : goal.returns-then-same_word-13
unfolding command_of
returns-then-same_word-13 c = rw (← c.same_word.ensures, c.if-same_word.false, ← c.same_word-2.ensures, c.if-same_word-2.false, ← c.same_word-3.ensures, c.if-same_word-3.false, ← c.same_word-4.ensures, c.if-same_word-4.false, ← c.same_word-5.ensures, c.if-same_word-5.false, ← c.same_word-6.ensures, c.if-same_word-6.false, ← c.same_word-7.ensures, c.if-same_word-7.false, ← c.same_word-8.ensures, c.if-same_word-8.false, ← c.same_word-9.ensures, c.if-same_word-9.false, ← c.same_word-10.ensures, c.if-same_word-10.false, ← c.same_word-11.ensures, c.if-same_word-11.false, ← c.same_word-12.ensures, c.if-same_word-12.false, ← c.same_word-13.ensures, c.if-same_word-13.true)

pub returns : goal.returns
unfolding command_of
returns c = rw (← c.same_word.ensures, c.if-same_word.false, ← c.same_word-2.ensures, c.if-same_word-2.false, ← c.same_word-3.ensures, c.if-same_word-3.false, ← c.same_word-4.ensures, c.if-same_word-4.false, ← c.same_word-5.ensures, c.if-same_word-5.false, ← c.same_word-6.ensures, c.if-same_word-6.false, ← c.same_word-7.ensures, c.if-same_word-7.false, ← c.same_word-8.ensures, c.if-same_word-8.false, ← c.same_word-9.ensures, c.if-same_word-9.false, ← c.same_word-10.ensures, c.if-same_word-10.false, ← c.same_word-11.ensures, c.if-same_word-11.false, ← c.same_word-12.ensures, c.if-same_word-12.false, ← c.same_word-13.ensures, c.if-same_word-13.false)
