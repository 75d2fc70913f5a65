-- `digits::digit_count` meets its contract. Assumes nothing.
use mathlib.Core.Path.{◌≡◌, refl, sym, ◌∙◌}
use Prim.Native.Nat.{ℕ, zero, suc, max, ◌-◌, ◌*◌, ◌/◌, ◌^◌, ◌<◌, ◌≤◌}
use native.Mathlib.Omega.{arith}
use lib.Bits.{bit_or}
use lib.Count.{count_leading_zeros, leading_le}
use Rattle.text_rules.specs.Digits.{count}
use Rattle.text_rules.proofs.DigitLaws.{last_one}
use Rattle.text_rules.proofs.DigitWords.{Bits, bits_of, bits-under, bits_over}
use Rattle.text_rules.proofs.digits.digit_count.Goals as goal

abbrev zeros : ℕ → ℕ
zeros n = count_leading_zeros 64 (bit_or n 1)

bits : (n : ℕ) → n < 2 ^ 64 → Bits n (64 - zeros n)
bits n h = bits_of n (zeros n) h refl

pub overflow_cast-bits : goal.overflow_cast-bits
overflow_cast-bits c = omega (arith, leading_le 64 (bit_or c.args.n 1))

pub overflow_sub-bits : goal.overflow_sub-bits
overflow_sub-bits c = leading_le 64 (bit_or c.args.n 1)

under : (n t : ℕ) → n < 10 ^ t → (0 < t → t ≡ count 19 n) → max t 1 ≡ count 19 n
under n zero h e = sym (last_one 19 n (omega arith))
under n (suc t) h e = omega (arith, e (omega arith))

pub returns-then-n-pow10 : goal.returns-then-n-pow10
returns-then-n-pow10 c =
    let n = c.args.n in
    let b = bits n (omega arith) in
    let t = (64 - zeros n) * 1233 / 4096 in
    let l : n < 10 ^ t = omega (arith, c.if-n-pow10.true, c.pow10.ensures.0) in
    (c.max.ensures ∙ under n t l (bits-under n (64 - zeros n) b l), omega arith, omega (arith, b.most))

pub returns-else-n-pow10 : goal.returns-else-n-pow10
returns-else-n-pow10 c =
    let n = c.args.n in
    let b = bits n (omega arith) in
    let t = (64 - zeros n) * 1233 / 4096 in
    let l : 10 ^ t ≤ n = omega (arith, c.if-n-pow10.false, c.pow10.ensures.0) in
    (bits_over n (64 - zeros n) b l, omega arith, omega (arith, b.most))
