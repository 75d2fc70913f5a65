-- `words::is_keyword` meets its contract. Assumes nothing.
use mathlib.Core.Path.{sym}
use native.Mathlib.Omega.{arith}
use Rattle.text_rules.proofs.WordsLaws.{no_keyword}
use Rattle.text_rules.proofs.words.is_keyword.Goals as goal

pub returns-in_default : goal.returns-in_default
returns-in_default c = sym (no_keyword c.args.w.now c.requires (λ q. grind (arith, c.in_default)) (λ q. grind (arith, c.in_default)) (λ q. grind (arith, c.in_default)))
