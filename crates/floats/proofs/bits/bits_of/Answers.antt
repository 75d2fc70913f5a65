-- `floats::bits::bits_of` meets its contract. Assumes nothing.
use mathlib.Core.Path.{sym, ap, ◌∙◌}
use mathlib.Core.Bool.{Bool}
use Prim.Native.Nat.{ℕ, ◌+◌}
use lib.Ieee.{binary64, to_bits}
use Rattle.floats.specs.Value.{whole_float}
use Rattle.floats.proofs.ValueLaws.{negative-bits}
use Rattle.floats.proofs.bits.bits_of.Goals as goal

pub returns-then-neg : goal.returns-then-neg
returns-then-neg c =
    let n = c.args.n in
    ap (λ (b : ℕ). 9_223_372_036_854_775_808 + b) c.unsigned_bits-b.ensures.1
    ∙ sym (negative-bits n)
    ∙ ap (λ (s : Bool). to_bits binary64 (whole_float s n)) (sym c.if-neg.true)

pub returns : goal.returns
returns c =
    let n = c.args.n in
    c.unsigned_bits-b.ensures.1 ∙ ap (λ (s : Bool). to_bits binary64 (whole_float s n)) (sym c.if-neg.false)
