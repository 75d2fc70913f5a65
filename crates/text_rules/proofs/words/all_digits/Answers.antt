-- `words::all_digits` meets its contract. Assumes nothing.
use mathlib.Core.Path.{sym, ◌∙◌}
use native.Mathlib.Omega.{arith}
use borrow.Author.Tests.{le-ltb}
use Rattle.text_rules.proofs.WordsLaws.{digits-none, digits-all}
use Rattle.text_rules.proofs.words.all_digits.Goals as goal

pub returns-then-from-s : goal.returns-then-from-s
returns-then-from-s c = digits-all c.args.s.now c.args.from c.digits_end.result (omega arith) c.digits_end.ensures

pub returns-else-from-s : goal.returns-else-from-s
returns-else-from-s c = le-ltb _ _ c.if-from-s.false ∙ sym (digits-none c.args.s.now c.args.from c.if-from-s.false)
