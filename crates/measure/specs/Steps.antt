-- What the contracts of the walk and its parts name: the setting as a number, and sums and flags that go on. Assumes nothing: these are definitions.
use Rattle.std.specs.Prelude.{ℕ, zero, suc, ◌+◌, ◌*◌, ◌<◌, ◌≤◌, List, [], ◌∷◌, Bool, true, ◌||◌, eqb, get_or, Option, Some, None}
use Rattle.output.specs.Logic.{if}
use Rattle.output.specs.Wrote.{limit}
use Rattle.tape.specs.Tree.{Nodes, size}
use Rattle.tape.specs.Refusal.{noteds, numbereds}
use Rattle.tape.specs.declared.Frame.{Frame}
use Rattle.tape.specs.CheckSteps.{whole}
use Rattle.tape.specs.declared.check.Front.{Front}
use Rattle.measure.specs.declared.parts.Notes.{Notes}
use Rattle.measure.specs.Sums.{separator_length}

-- how many quote marks there are around a symbol text that could stand bare: the walk's form of the setting
abbrev pub quotes_of : Bool → ℕ
quotes_of quoted = if quoted 2 0

-- the setting of so many quote marks
abbrev pub quoting : ℕ → Bool
quoting quotes = eqb quotes 2

-- number by number, four of them
unfoldable pub plus : List ℕ → List ℕ → List ℕ
plus a b = (get_or a 0 0 + get_or b 0 0) ∷ (get_or a 1 0 + get_or b 1 0) ∷ (get_or a 2 0 + get_or b 2 0) ∷ (get_or a 3 0 + get_or b 3 0) ∷ []

-- the separator behind the last of so many children
abbrev pub last_separator : ℕ → Frame → ℕ
last_separator zero k = 0
last_separator (suc c) k = separator_length k

-- what a body has of its own: n bytes of contents, a separator behind each of c children, w blanks before each
unfoldable pub body_own : ℕ → ℕ → Frame → ℕ → List ℕ
body_own n c k w = n ∷ (c * separator_length k) ∷ last_separator c k ∷ (c * w) ∷ []

-- the kinds of scalars whose length `untold_length` may be asked for: floats, symbols, strings, clobs
abbrev pub is_untold : ℕ → Bool
is_untold k = eqb k 3 || (eqb k 6 || (eqb k 8 || eqb k 9))

-- annotations that are measured, as validation tells of them
abbrev pub notes_as : Option Notes → Option Front
notes_as None = None
notes_as (Some n) = whole n.end true n.numbered

-- a flag, 1 for yes, that goes on: yes if it was, or by b
abbrev pub flagged : ℕ → Bool → ℕ
flagged a b = if b 1 a

-- what was met behind the nodes of a body, if a was met before: whether there are annotations, whether there is an identifier but 0, how many children
-- the body has
unfoldable pub met : List ℕ → Nodes → List ℕ
met a ns = flagged (get_or a 0 0) (noteds ns) ∷ flagged (get_or a 1 0) (numbereds ns) ∷ size ns ∷ []

-- sums that fit a word with room to spare
pub record SumsFit (a : List ℕ) : Type 0 where
  pub contents : get_or a 0 0 < limit
  pub separators : get_or a 1 0 < limit
  pub lasts : get_or a 2 0 < limit
  pub indents : get_or a 3 0 < limit

-- behind p more bytes of a tape each of four sums has grown, from a to b, by 200 a byte at most; so that sums fit a word
pub record Grown (p : ℕ) (a b : List ℕ) : Type 0 where
  pub contents : get_or b 0 0 ≤ get_or a 0 0 + 200 * p
  pub separators : get_or b 1 0 ≤ get_or a 1 0 + 200 * p
  pub lasts : get_or b 2 0 ≤ get_or a 2 0 + 200 * p
  pub indents : get_or b 3 0 ≤ get_or a 3 0 + 200 * p
