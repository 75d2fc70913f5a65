-- What the contracts of token readers say. Assumes nothing: these are definitions.
use Rattle.std.specs.Prelude.{ℕ, ◌≤◌, ◌<◌, ◌≡◌, Bool, true, List, length, drop}
use Rattle.std.specs.Prelude.{Some, None}
use Rattle.std.specs.Prelude as std
use Rattle.std.proofs.Math.Option.{Option, none, some}
use Rattle.text_rules.specs.Texts.{starts}

-- what a function answers, as the definitions give it
abbrev pub found : {A : Type 0} → std.Option A → Option A
found (Some x) = some x
found None = none

-- the rest of a text from a place on, beside what was read up to there
abbrev pub from : {A : Type 0} → List ℕ → Option (A × ℕ) → Option (A × List ℕ)
from text none = none
from text (some v) = some (v.0, drop v.1 text)

-- a place at which something ends: not before lo, and within the text
abbrev pub Ends : {A : Type 0} → List ℕ → ℕ → Option (A × ℕ) → Type 0
Ends text lo none = Unit
Ends text lo (some v) = (lo ≤ v.1) × (v.1 ≤ length text)

-- A reader answered r, a value and the place behind it, or nothing. The definition's answer is o.
pub record Reads {A : Type 0} (text : List ℕ) (lo : ℕ) (o : Option (A × List ℕ)) (r : Option (A × ℕ)) : Type 0 where
  pub is : o ≡ from text r
  pub place : Ends text lo r

-- a byte stands at a place
pub record Stands (text : List ℕ) (at b : ℕ) (r : Bool) : Type 0 where
  pub is : r ≡ starts b (drop at text)
  pub inside : r ≡ true → at < length text
