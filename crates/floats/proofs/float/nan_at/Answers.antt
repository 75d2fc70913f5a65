-- `floats::float::nan_at` meets its contract. A NaN is made by 0.0 / 0.0, since no float is made of a NaN's pattern. Assumes nothing.
use lib.Ieee.{div, of_bits}
use Rattle.text_rules.proofs.ReadingLaws.{refused}
use Rattle.floats.proofs.FloatLaws.{nan_here, nan-other}
use Rattle.floats.proofs.float.nan_at.Goals as goal

pub returns-then-same_word : goal.returns-then-same_word
unfolding div of_bits
returns-then-same_word c = nan_here c.word_end-e.ensures c.same_word.result c.same_word.ensures c.if-same_word.true

pub returns : goal.returns
returns c = refused (nan-other c.word_end-e.ensures c.same_word.result c.same_word.ensures c.if-same_word.false)
