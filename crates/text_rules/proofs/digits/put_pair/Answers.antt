-- `digits::put_pair` meets its contract. Assumes nothing.
use mathlib.Core.Path.{◌∙◌, ap}
use native.Mathlib.Omega.{arith}
use lib.Seq.{sets}
use Rattle.text_rules.proofs.DigitLaws.{length-pad}
use Rattle.text_rules.proofs.DigitCode.{pad_mod}
use borrow.Author.Rules.{rules}
use Rattle.text_rules.proofs.digits.put_pair.Goals as goal

pub returns-then-pos-saturating_sub : goal.returns-then-pos-saturating_sub
returns-then-pos-saturating_sub c =
    let a = c.args in
    record {
      bytes =
          c.two.ensures
          ∙ ap (sets a.buf.now a.pos) (pad_mod 2 a.n);
      count = omega (arith, length-pad 2 a.n);
      room = search rules;
    }
