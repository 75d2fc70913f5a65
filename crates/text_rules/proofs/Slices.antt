-- What std says of slices, in the words of the definitions. Assumes nothing.
use Prim.Native.Nat.{ℕ}
use mathlib.Core.Path.{◌≡◌, refl}
use mathlib.Core.List.{List, [], ◌∷◌}
use mathlib.Core.Bool.{Bool, true, false, ◌&&◌}
use mathlib.Core.Option.{none}
use lib.Dec.{eqb}
use Rattle.std.specs.Cmp.Lexicographic.{pointwise}
use Rattle.output.specs.Logic.{if, on}
use Rattle.text_rules.specs.Texts.{empty, strip, same}

-- a text that is a word, whole
pub same_pointwise : (w t : List ℕ) → pointwise eqb t w ≡ same w t
unfolding same strip
same_pointwise [] [] = refl
same_pointwise [] (c ∷ t) = refl
same_pointwise (x ∷ w) [] = refl
same_pointwise (x ∷ w) (c ∷ t) = go (eqb c x) (same_pointwise w t)
  where
    go : (b : Bool) → pointwise eqb t w ≡ same w t → b && pointwise eqb t w ≡ on (if b (strip w t) none) empty false
    go true e = e
    go false e = refl
