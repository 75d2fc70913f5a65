-- `digits::fill_short` meets its contract. Assumes nothing.
use mathlib.Core.Path.{◌∙◌, ap}
use native.Mathlib.Omega.{arith}
use lib.Seq.{sets}
use Rattle.text_rules.proofs.DigitCode.{pad_mod}
use Rattle.text_rules.proofs.DigitWords.{last_digits}
use Rattle.text_rules.proofs.digits.fill_short.Goals as goal

pub returns : goal.returns
returns c =
    let a = c.args in
    let w = c.eight_digits in
    c.store_last.ensures
    ∙ ap (sets a.buf.now a.pos) (last_digits a.w w.result a.n (omega arith) (w.ensures ∙ pad_mod 8 a.n))
