-- `floats::bits::unsigned_bits` meets its contract. Assumes nothing.
use mathlib.Core.Path.{sym, ap, ◌∙◌}
use mathlib.Core.Bool.{false}
use Prim.Native.Nat.{ℕ}
use native.Mathlib.Omega.{arith}
use lib.Dec.{lit<}
use lib.Ieee.{binary64, to_bits}
use Rattle.floats.specs.Value.{whole_float}
use Rattle.floats.proofs.ValueLaws.{zero_bits, most_bits, moved_bits}
use Rattle.floats.proofs.ValueBits.{moved}
use Rattle.floats.proofs.bits.unsigned_bits.Goals as goal

pub returns-then-n-eq0 : goal.returns-then-n-eq0
returns-then-n-eq0 c = (lit< tt, sym (ap (λ (n : ℕ). to_bits binary64 (whole_float false n)) c.if-n-eq0.true ∙ zero_bits))

pub returns-then-n-eq9007199254740992 : goal.returns-then-n-eq9007199254740992
returns-then-n-eq9007199254740992 c = (lit< tt, sym (ap (λ (n : ℕ). to_bits binary64 (whole_float false n)) c.if-n-eq9007199254740992.true ∙ most_bits))

pub overflow_sub-i : goal.overflow_sub-i
overflow_sub-i c = (moved c.args.n (omega arith) (omega arith)).0

pub overflow_cast-m : goal.overflow_cast-m
overflow_cast-m c = let m = moved c.args.n (omega arith) (omega arith) in record { fits = omega (arith, m.1) }

pub overflow_shl-m : goal.overflow_shl-m
overflow_shl-m c = let m = moved c.args.n (omega arith) (omega arith) in omega (arith, m.1)

pub overflow_cast-result : goal.overflow_cast-result
overflow_cast-result c = let m = moved c.args.n (omega arith) (omega arith) in record { fits = omega (arith, m.1) }

pub overflow_sub-result : goal.overflow_sub-result
overflow_sub-result c = let m = moved c.args.n (omega arith) (omega arith) in omega (arith, m.1)

pub overflow_add-result : goal.overflow_add-result
overflow_add-result c = let m = moved c.args.n (omega arith) (omega arith) in record { fits = omega (arith, m.1, m.3) }

pub returns : goal.returns
returns c =
    let n = c.args.n in
    let m = moved n (omega arith) (omega arith) in
    let b = moved_bits n _ (omega (arith, m.1)) m.2 m.3 in
    (omega (arith, m.1, m.3), omega (arith, m.3, b))
