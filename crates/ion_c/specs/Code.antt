-- The number that a call answers across the border. Assumes nothing: these are definitions.
use Rattle.std.specs.Prelude.{ℕ, zero, suc, ◌^◌, ◌<◌, ◌≡◌, List, ℤ, pos, negsuc, Option, None, Some, Result}
use Rattle.text_rules.specs.Text.{Sym}
use Rattle.tape.specs.Answer.{Outcome, counted, ended, refused}
use Rattle.field_index.specs.declared.Entry.{Entry}
use Rattle.field_index.specs.declared.Refusal.{Refusal}
use Rattle.field_index.specs.Index.{indexed, IndexOf}
use Rattle.field_index.specs.Lookup.{Finds}

-- the count; 0 for the end mark; minus the refusal's number. No refusal has the number 0. A count of 0 is an empty text or a struct without fields; a call that
-- may answer the end mark never counts 0, since a tape has at least 8 bytes
abbrev pub code : Outcome → ℤ
code (counted n) = pos n
code ended = pos 0
code (refused zero) = pos 0
code (refused (suc n)) = negsuc n

-- a count that fits
abbrev pub Small : Outcome → Type 0
Small (counted n) = n < 2 ^ 63
Small ended = Unit
Small (refused n) = Unit

-- the place, or -1
abbrev pub place_code : Option ℕ → ℤ
place_code (Some k) = pos k
place_code None = negsuc 0

-- a place that fits
abbrev pub Near : Option ℕ → Type 0
Near (Some k) = k < 2 ^ 63
Near None = Unit

-- what an index leaves in the entries, and the number of its answer
pub record Indexes (t : List ℕ) (at : ℕ) (l l' : List Entry) (r : ℤ) : Type 0 where
  pub answer : Result ℕ Refusal
  pub index : IndexOf t at l l' answer
  pub number : r ≡ code (indexed answer)

-- what a lookup finds, as a number
pub record Places (t : List ℕ) (name : Sym) (l : List Entry) (r : ℤ) : Type 0 where
  pub place : Option ℕ
  pub found : Finds t name l place
  pub number : r ≡ place_code place
