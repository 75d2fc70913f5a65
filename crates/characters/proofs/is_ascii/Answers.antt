-- `characters::is_ascii` meets its contract. Assumes nothing.
use mathlib.Core.Path.{sym, ◌∙◌}
use Rattle.characters.proofs.AsciiWords.{ascii_word, ascii_all}
use Rattle.characters.proofs.is_ascii.Goals as goal

pub returns : goal.returns
returns c = λ e. ascii_all _ (ascii_word c.args.n c.args.x (sym c.is_ascii.ensures ∙ e))
