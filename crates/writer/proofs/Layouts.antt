-- What stands between values, from the bytes that the code picks. Assumes nothing.
use Prim.Native.Nat.{ℕ, ◌+◌, ◌≤◌}
use mathlib.Core.Path.{◌≡◌, refl, ap, ◌∙◌}
use mathlib.Core.List.{List, [], ◌∷◌}
use mathlib.Core.Bool.{Bool, true, false}
use native.Mathlib.Omega.{arith}
use lib.Dec.{eqb}
use Rattle.output.specs.Logic.{if, byte}
use Rattle.tape.specs.declared.Frame.TheVariants.{Top, List as ListF, Sexp, Struct}
use Rattle.writer.specs.Text.{separator, deeper}
use Rattle.writer.specs.Steps.{separating}

-- a text with a byte that is picked is one of two texts
picked : (f : ℕ → List ℕ) (b : Bool) (x y : ℕ) → f (if b x y) ≡ if b (f x) (f y)
picked f true x y = refl
picked f false x y = refl

-- x is the space behind a top-level value
module _ (y x : ℕ) (e : x ≡ if (eqb y 0) (byte " ") (byte "\n")) where
  pub separator-top : separating (record { second = x; pair = false }) ≡ separator y Top
  unfolding separator separating
  separator-top = ap (λ (i : ℕ). i ∷ []) e ∙ picked (λ (i : ℕ). i ∷ []) (eqb y 0) (byte " ") (byte "\n")

-- x is the space behind a nested value
module _ (y x : ℕ) (e : x ≡ if (eqb y 2) (byte "\n") (byte " ")) where
  pub separator-list : separating (record { second = x; pair = true }) ≡ separator y ListF
  unfolding separator separating
  separator-list = ap (λ (i : ℕ). byte "," ∷ i ∷ []) e ∙ picked (λ (i : ℕ). byte "," ∷ i ∷ []) (eqb y 2) (byte "\n") (byte " ")

  pub separator_sexp : separating (record { second = x; pair = false }) ≡ separator y Sexp
  unfolding separator separating
  separator_sexp = ap (λ (i : ℕ). i ∷ []) e ∙ picked (λ (i : ℕ). i ∷ []) (eqb y 2) (byte "\n") (byte " ")

  pub separator_struct : separating (record { second = x; pair = true }) ≡ separator y Struct
  unfolding separator separating
  separator_struct = ap (λ (i : ℕ). byte "," ∷ i ∷ []) e ∙ picked (λ (i : ℕ). byte "," ∷ i ∷ []) (eqb y 2) (byte "\n") (byte " ")

-- a level has at most two blanks more than the one above it
pub deeper_most : (y w : ℕ) → deeper y w ≤ w + 2
unfolding deeper
deeper_most y w = go (eqb y 2)
  where
    go : (b : Bool) → if b (w + 2) 0 ≤ w + 2
    go true = omega arith
    go false = omega arith
