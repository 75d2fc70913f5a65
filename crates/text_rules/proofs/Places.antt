-- A text from a place on. Assumes nothing.
use mathlib.Core.Path.{◌≡◌, ap, ◌∙◌}
use mathlib.Core.List.{List, [], ◌∷◌}
use Prim.Native.Nat.{ℕ, ◌+◌, ◌<◌}
use native.Mathlib.Numerals.{add-one}
use lib.ListN.{length, drop, get_or}
use lib.Seq.{drop-cons, drop-length, drop-drop}

-- the byte there, and the text behind it
pub byte_at : (t : List ℕ) (i : ℕ) → i < length t → drop i t ≡ get_or t i 0 ∷ drop (i + 1) t
byte_at t i h = rw (add-one, drop-cons t i 0)

pub end-at : (t : List ℕ) (i : ℕ) → i ≡ length t → drop i t ≡ []
end-at t i h = ap (λ (j : ℕ). drop j t) h ∙ drop-length t

pub next : (t : List ℕ) (i : ℕ) → drop 1 (drop i t) ≡ drop (i + 1) t
next t i = drop-drop 1 i t
