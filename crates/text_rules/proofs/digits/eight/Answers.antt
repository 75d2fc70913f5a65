-- `digits::eight` meets its contract. Assumes nothing.
use mathlib.Core.Path.{◌∙◌, ap}
use lib.Seq.{sets}
use Rattle.text_rules.proofs.digits.eight.Goals as goal

pub returns : goal.returns
returns c =
    let a = c.args in
    c.store.ensures ∙ ap (sets a.buf.now a.p) c.eight_digits.ensures
