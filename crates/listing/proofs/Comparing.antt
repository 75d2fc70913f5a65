-- Laws on whole buffers. Assumes nothing.
use Prim.Native.Nat.{ℕ, zero, suc, ◌<◌}
use mathlib.Core.Path.{◌≡◌, refl, ◌∙◌}
use mathlib.Core.List.{List, [], ◌∷◌, ◌++◌}
use native.Mathlib.Omega.{arith}
use lib.ListN.{length, get_or, replicate, length-append, length-take, length-replicate, get_or-replicate}
use lib.Seq.{get_or-take}
use Rattle.listing.specs.Due.{filled}

behind : (s : List ℕ) (n rest i : ℕ) → i < n → get_or (s ++ replicate n rest) i 0 ≡ get_or s i rest
behind [] n rest i h = get_or-replicate n i rest 0 h
behind (x ∷ s) n rest zero h = refl
behind (x ∷ s) n rest (suc i) h = behind s n rest i (omega arith)

pub filled_byte : (n : ℕ) (s : List ℕ) (rest i : ℕ) → i < n → get_or (filled n s rest) i 0 ≡ get_or s i rest
filled_byte n s rest i h = get_or-take n (s ++ replicate n rest) i 0 h ∙ behind s n rest i h

pub filled-length : (n : ℕ) (s : List ℕ) (rest : ℕ) → length (filled n s rest) ≡ n
filled-length n s rest = simp (length-take, length-append, length-replicate) (omega arith)
