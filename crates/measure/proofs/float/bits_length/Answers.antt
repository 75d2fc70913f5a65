-- `float::bits_length` meets its contract. Assumes nothing.
use Prim.Native.Nat.{ℕ, ◌+◌, ◌%◌, ◌^◌, ◌<◌, ◌≤◌}
use mathlib.Core.Path.{◌≡◌, sym}
use mathlib.Core.Option.{some}
use native.Mathlib.Omega.{arith}
use native.Mathlib.Decide.{dec_le}
use lib.Dec.{leb}
use lib.Ieee.{binary64, of_fields, of_bits}
use lib.ListN.{length, length-append}
use borrow.Author.Tests.{le-leb, lt-leb}
use Rattle.numbers.specs.Decimal.{sign}
use Rattle.floats.specs.Whole.{whole_text}
use Rattle.floats.specs.Value.{magnitude}
use Rattle.floats.specs.Float.{float_text}
use Rattle.floats.proofs.WholeBytes.{whole-length_most}
use Rattle.floats.proofs.ValueLaws.{magnitude_most}
use Rattle.floats.proofs.FloatLaws.{bits_text, no_text}
use Rattle.measure.proofs.float.bits_length.Goals as goal

-- the infinities have four bytes
infinity : (b : ℕ) → b < 2 ^ 64 → b % 0x8000_0000_0000_0000 ≡ 0x7FF0_0000_0000_0000 → 4 ≡ length (float_text (of_bits binary64 b))
unfolding float_text of_bits of_fields
infinity b h e = go (dec_le 0x8000_0000_0000_0000 b)
  where
    go : Dec (0x8000_0000_0000_0000 ≤ b) → 4 ≡ length (float_text (of_bits binary64 b))
    go (yes k) = let i : b ≡ 0xFFF0_0000_0000_0000 = omega arith in rw i
    go (no k) = let i : b ≡ 0x7FF0_0000_0000_0000 = omega arith in rw i

-- the sign, and the number that the float is
signed : (b n w : ℕ) → b < 2 ^ 64 → magnitude (of_bits binary64 b) ≡ some n → w ≡ length (whole_text n) → length (sign (leb 0x8000_0000_0000_0000 b)) + w ≡ length (float_text (of_bits binary64 b))
signed b n w h m e = rw (e, bits_text b n h m) (sym (length-append (sign (leb 0x8000_0000_0000_0000 b)) (whole_text n)))

pub overflow_add-result : goal.overflow_add-result
overflow_add-result c =
    let m : magnitude (of_bits binary64 c.args.b) ≡ some c.in-Some.n = sym c.in-Some.ensures in
    let l = whole-length_most _ (magnitude_most _ _ m) in
    let e = c.whole_length-w.ensures in
    record { fits = omega arith }

pub returns-then-b-lt9223372036854775808 : goal.returns-then-b-lt9223372036854775808
unfolding sign
returns-then-b-lt9223372036854775808 c = let e = rw (lt-leb _ _ c.if-b-lt9223372036854775808.true) at (signed c.args.b c.in-Some.n _ c.ranges.b.fits (sym c.in-Some.ensures) c.whole_length-w.ensures) in omega arith

pub returns-else-b-lt9223372036854775808 : goal.returns-else-b-lt9223372036854775808
unfolding sign
returns-else-b-lt9223372036854775808 c = rw (le-leb _ _ c.if-b-lt9223372036854775808.false) at (signed c.args.b c.in-Some.n _ c.ranges.b.fits (sym c.in-Some.ensures) c.whole_length-w.ensures)

pub returns-then-b-eq9218868437227405312 : goal.returns-then-b-eq9218868437227405312
returns-then-b-eq9218868437227405312 c = infinity c.args.b c.ranges.b.fits c.if-b-eq9218868437227405312.true

pub returns-else-b-eq9218868437227405312 : goal.returns-else-b-eq9218868437227405312
returns-else-b-eq9218868437227405312 c =
    let v = c.in-None.ensures in
    let n = c.if-b-eq9218868437227405312.false in
    rw (no_text c.args.b c.ranges.b.fits c.requires (sym v) (λ i. omega arith) (λ i. omega arith))
