-- `characters::char_len` meets its contract. Assumes nothing.
use mathlib.Core.Path.{sym}
use Rattle.characters.proofs.Utf8Chars.{ascii}
use Rattle.characters.proofs.char_len.Goals as goal

pub returns-then-a-lt128 : goal.returns-then-a-lt128
returns-then-a-lt128 c = sym (ascii _ _ _ _ c.if-a-lt128.true)
