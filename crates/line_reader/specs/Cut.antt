-- A text and its lines: where it is cut, and what stands before its first and behind its last line feed. Assumes nothing: these are definitions.
use Rattle.std.specs.Prelude.{ℕ, suc, List, [], ◌∷◌, eqb}
use Rattle.output.specs.Logic.{if, byte}

-- the line feed
abbrev pub lf : ℕ
lf = byte "\n"

-- one byte more in front of a cut text: it joins the first line
unfoldable pub grow : ℕ → List (List ℕ) → List (List ℕ)
grow b [] = (b ∷ []) ∷ []
grow b (l ∷ ls) = (b ∷ l) ∷ ls

-- "The text is cut behind each LF into lines; a nonempty rest without LF is the last."
unfoldable pub lines_of : List ℕ → List (List ℕ)
lines_of [] = []
lines_of (b ∷ t) = if (eqb b lf) ((b ∷ []) ∷ lines_of t) (grow b (lines_of t))

-- how many LFs a text has
unfoldable pub lfs : List ℕ → ℕ
lfs [] = 0
lfs (b ∷ t) = if (eqb b lf) (suc (lfs t)) (lfs t)

-- through the first LF, or all where there is none
unfoldable pub to_first : List ℕ → List ℕ
to_first [] = []
to_first (b ∷ t) = b ∷ if (eqb b lf) [] (to_first t)

-- behind the last LF, or all where there is none
unfoldable pub from_last : List ℕ → List ℕ
from_last [] = []
from_last (b ∷ t) = if (eqb (lfs (b ∷ t)) 0) (b ∷ t) (from_last t)
