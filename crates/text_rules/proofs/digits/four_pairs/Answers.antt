-- `digits::four_pairs` meets its contract. Assumes nothing.
use mathlib.Core.Path.{◌∙◌, ap, refl}
use Prim.Native.Nat.{ℕ, ◌+◌}
use native.Mathlib.Omega.{arith}
use Rattle.output.specs.Wrote.{le_bytes}
use Rattle.text_rules.proofs.DigitWords.{zeros, pairs_word}
use Rattle.text_rules.proofs.digits.four_pairs.Goals as goal

pub pair_digits-requires : goal.pair_digits-requires
pair_digits-requires c = let g = c.args in record { a = g.a; b = g.b; c = g.c; d = g.d; small = c.requires; whole = refl }

pub overflow_add-result : goal.overflow_add-result
overflow_add-result c = omega (arith, c.pair_digits.ensures.small)

pub returns : goal.returns
returns c =
    let g = c.args in
    let p = c.requires in
    ap (λ (w : ℕ). le_bytes 8 (w + zeros)) (c.pair_digits.ensures.word-is g.a g.b g.c g.d p.0 p.1 p.2 p.3 refl)
    ∙ pairs_word g.a g.b g.c g.d p.0 p.1 p.2 p.3
