-- `digits::put_padded` meets its contract. Assumes nothing.
use native.Mathlib.Omega.{arith}
use Rattle.text_rules.proofs.DigitLaws.{length-pad}
use borrow.Author.Rules.{rules}
use Rattle.text_rules.proofs.digits.put_padded.Goals as goal

pub returns-then-w-buf : goal.returns-then-w-buf
returns-then-w-buf c =
    let a = c.args in
    record {
      bytes = c.fill_padded.ensures;
      count = omega (arith, length-pad a.w a.n);
      room = search rules;
    }
