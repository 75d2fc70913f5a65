-- `marks::escapes_add` meets its contract. Assumes nothing.
-- the marks of bytes below hex 20, and of these of bytes without a letter
use mathlib.Core.Path.{◌≡◌, sym, ap, ◌∙◌}
use native.Mathlib.Omega.{arith}
use Prim.Native.Nat.{ℕ, ◌+◌, ◌-◌}
use lib.Bits.{bit_and, bit_xor, and_le_l}
use borrow.Author.Tests.{eq-eqb}
use Rattle.lanes.specs.Lanes.{Lane, rep}
use Rattle.lanes.proofs.LaneLaws.{lane_and, lane_not, lane_xor, lane_lt, low_add, unmarked}
use Rattle.measure.proofs.EscapeLengths.{escaped_length, none-low}
use Rattle.measure.proofs.MarkLaws.{low_escape_mark, hex_escape_mark, marked-count, marked-both, and_swap}
use Rattle.measure.proofs.marks.escapes_add.Goals as goal

low : (c : goal.After-high_bits) → let x = c.args.x in Lane low_escape_mark x (bit_and c.not_raw.result (18446744073709551615 - (bit_and x 0x7F7F7F7F7F7F7F7F + 0x6060606060606060)))
unfolding rep
low c = lane_and c.not_raw.ensures (lane_not (low_add 0x60 c.args.x (omega arith) c.ranges.x.fits))

hex : (c : goal.After-high_bits) → let z = bit_and c.args.x 0x7F7F7F7F7F7F7F7F in
    Lane hex_escape_mark c.args.x
    (bit_and (bit_and c.not_raw.result (18446744073709551615 - (z + 0x6060606060606060))) (bit_xor (bit_xor (z + 0x7F7F7F7F7F7F7F7F) (z + 0x7979797979797979)) (z + 0x7272727272727272)))
unfolding rep
hex c =
    let x = c.args.x in
    let h = c.ranges.x.fits in
    lane_and (low c) (lane_xor (lane_xor (low_add 0x7F x (omega arith) h) (low_add 0x79 x (omega arith) h)) (low_add 0x72 x (omega arith) h))

pub overflow_add-low : goal.overflow_add-low
unfolding rep
overflow_add-low c = record { fits = lane_lt (low_add 0x60 c.args.x (omega arith) c.ranges.x.fits) }

pub returns-then-low-eq0 : goal.returns-then-low-eq0
returns-then-low-eq0 c =
    let n = c.args.n in
    let h = c.high_bits.ensures in
    let m = rw (and_swap c.not_raw.result c.high_bits.result (18446744073709551615 - (bit_and c.args.x 0x7F7F7F7F7F7F7F7F + 0x6060606060606060)), h) at c.if-low-eq0.true in
    let none = none-low n c.args.x (sym (unmarked (low c.before) n c.requires.1) ∙ eq-eqb _ _ m) in
    let s = rw none at (escaped_length n c.args.x) in
    rw (h, marked-count c.not_raw.ensures n c.requires.1) (omega (arith, s))

pub overflow_add-hex : goal.overflow_add-hex
unfolding rep
overflow_add-hex c = record { fits = lane_lt (low_add 0x7F c.args.x (omega arith) c.ranges.x.fits) }

pub overflow_add-hex-2 : goal.overflow_add-hex-2
unfolding rep
overflow_add-hex-2 c = record { fits = lane_lt (low_add 0x79 c.args.x (omega arith) c.ranges.x.fits) }

pub overflow_add-hex-3 : goal.overflow_add-hex-3
unfolding rep
overflow_add-hex-3 c = record { fits = lane_lt (low_add 0x72 c.args.x (omega arith) c.ranges.x.fits) }

pub overflow_add-result : goal.overflow_add-result
overflow_add-result c =
    let v = c.not_raw.result in
    let h = c.high_bits.result in
    let k = lane_lt c.not_raw.ensures in
    let i = and_le_l v h in
    let z = bit_and c.args.x 0x7F7F7F7F7F7F7F7F in
    let w = 18446744073709551615 - (z + 0x6060606060606060) in
    let j = and_le_l (bit_and v h) w in
    let l = and_le_l (bit_and (bit_and v h) w) (bit_xor (bit_xor (z + 0x7F7F7F7F7F7F7F7F) (z + 0x7979797979797979)) (z + 0x7272727272727272)) in
    record { fits = omega arith }

pub returns : goal.returns
returns c =
    let n = c.args.n in
    let v = c.not_raw.result in
    let h = c.high_bits.result in
    let z = bit_and c.args.x 0x7F7F7F7F7F7F7F7F in
    let w = 18446744073709551615 - (z + 0x6060606060606060) in
    let t = bit_xor (bit_xor (z + 0x7F7F7F7F7F7F7F7F) (z + 0x7979797979797979)) (z + 0x7272727272727272) in
    let s : bit_and (bit_and (bit_and v h) w) t ≡ bit_and (bit_and (bit_and v w) t) h = ap (λ (k : ℕ). bit_and k t) (and_swap v h w) ∙ and_swap (bit_and v w) h t in
    rw (s, c.high_bits.ensures, marked-both c.not_raw.ensures (hex c.before) n c.requires.1) (escaped_length n c.args.x)
