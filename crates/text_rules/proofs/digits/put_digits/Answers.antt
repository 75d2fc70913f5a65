-- `digits::put_digits` meets its contract. Assumes nothing.
use native.Mathlib.Omega.{arith}
use Rattle.text_rules.specs.Digits.{digits}
use Rattle.text_rules.proofs.DigitLaws.{length_digits, count_le}
use borrow.Author.Rules.{rules}
use Rattle.text_rules.proofs.digits.put_digits.Goals as goal

pub returns-then-pos-saturating_sub : goal.returns-then-pos-saturating_sub
returns-then-pos-saturating_sub c =
    let n = c.args.n in
    record {
      bytes = c.put_blocks.ensures.bytes;
      count = omega (arith, c.put_blocks.ensures.end, length_digits n, count_le n (omega arith));
      room = search rules;
    }

pub returns-else-pos-saturating_sub : goal.returns-else-pos-saturating_sub
unfolding digits
returns-else-pos-saturating_sub c = rw c.digit_count.ensures.0 at c.pad_clipped.ensures
