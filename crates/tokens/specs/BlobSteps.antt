-- What the readers of blobs say of their answers. Assumes nothing: these are definitions.
use Rattle.std.specs.Prelude.{ℕ, ◌≤◌, ◌≡◌, List, [], ◌∷◌, ◌++◌, length, drop, Some, None}
use Rattle.std.specs.Prelude as std
use Rattle.std.proofs.Math.Option.{Option, none, some}
use Rattle.output.specs.Logic.{then}
use Rattle.output.specs.Wrote.{Wrote}
use Rattle.text_rules.specs.Base64.{bits_of, first_bytes}
use Rattle.tokens.specs.Blob.{blob_rest}
use Rattle.tokens.specs.declared.quoted.Step.{Step}

-- the 24 bits of the whole group that a text starts with
unfoldable pub group_at : List ℕ → Option ℕ
group_at [] = none
group_at (a ∷ []) = none
group_at (a ∷ b ∷ []) = none
group_at (a ∷ b ∷ c ∷ []) = none
group_at (a ∷ b ∷ c ∷ d ∷ t) = bits_of a b c d

-- what `blob_rest` gives at a place is x and then what it gives at another: between the two whole groups stand, and x are their bytes
pub record Groups (text : List ℕ) (at r : ℕ) (x : List ℕ) : Type 0 where
  pub ahead : at ≤ r
  pub inside : r ≤ length text
  pub is : blob_rest (drop at text) ≡ then (blob_rest (drop r text)) (λ v. some (x ++ v.0, v.1))

-- they were read, and their bytes written at p
pub record Decoded (text : List ℕ) (at : ℕ) (b b' : List ℕ) (p : ℕ) (r : Step) : Type 0 where
  pub bytes : List ℕ
  pub groups : Groups text at r.at bytes
  pub wrote : Wrote b b' p r.pos bytes

-- bytes were read and written at p, and the text goes on at a place; or none were read
abbrev pub FirstBytesAt : List ℕ → List ℕ → ℕ → Option (List ℕ) → ℕ → std.Option Step → Type 0
FirstBytesAt b b' p o at (Some s) = (x : List ℕ) × (o ≡ some x) × (s.at ≡ at) × Wrote b b' p s.pos x
FirstBytesAt b b' p o at None = (o ≡ none) × (b' ≡ b)

-- the first w bytes of the 24 bits n, if the bits behind them are zero
pub record FirstBytes (b b' : List ℕ) (p n w at : ℕ) (r : std.Option Step) : Type 0 where
  pub told : FirstBytesAt b b' p (first_bytes w n) at r
