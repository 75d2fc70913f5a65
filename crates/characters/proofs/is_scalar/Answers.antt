-- `characters::is_scalar` meets its contract. Assumes nothing.
use mathlib.Core.Path.{◌≡◌, ◌∙◌}
use Prim.Native.Nat.{ℕ}
use Rattle.std.proofs.Common.{Option, None, Some, MatchOption, arith}
use Rattle.std.proofs.lemmas.Bool.Decides.{nat_tests}
use Rattle.std.specs.Char.{InScalarRange, OutOfScalarRange}
use Rattle.std.specs.Option.{is_some}
use Rattle.characters.specs.Utf8.{is_scalar}
use Rattle.characters.proofs.is_scalar.Goals as goal

scalar-of : (v : ℕ) (o : Option ℕ) → MatchOption o (OutOfScalarRange v) (λ _. InScalarRange v) → is_some o ≡ is_scalar v
unfolding is_scalar
scalar-of v None h = grind (arith, nat_tests)
scalar-of v (Some x) h = grind (arith, nat_tests)

pub returns : goal.returns
unfolding is_scalar
returns c = rw (c.is_some.ensures ∙ scalar-of c.args.v c.from_u32.result c.from_u32.ensures.cases) (grind (arith, nat_tests))
