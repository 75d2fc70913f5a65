-- What the inner functions of decoding answer. Assumes nothing: these are definitions.
use Rattle.std.specs.Prelude.{ℕ, ◌+◌, ◌-◌, ◌<◌, ◌≤◌, ◌≡◌, List, length, drop, Option, Some, None}
use Rattle.std.proofs.Math.Option.{none, some}
use Rattle.text_rules.specs.Escapes.{hex}
use Rattle.listing.specs.declared.decode.Form.{Form}
use Rattle.listing.specs.Spelling.{one_byte}

-- of the two hex digits at a place
abbrev pub PairIs : List ℕ → ℕ → Option (ℕ × ℕ) → Type 0
PairIs s at None = hex 2 0 (drop at s) ≡ none
PairIs s at (Some (b, next)) = (hex 2 0 (drop at s) ≡ some (b, drop next s)) × (next ≡ at + 2) × (next ≤ length s)

pub record PairAt (s : List ℕ) (at : ℕ) (r : Option (ℕ × ℕ)) : Type 0 where
  pub told : PairIs s at r

-- of the byte that is spelled at a place
abbrev pub OneIs : Form → List ℕ → ℕ → Option (ℕ × ℕ) → Type 0
OneIs f s at None = one_byte f (drop at s) ≡ none
OneIs f s at (Some (b, next)) = (one_byte f (drop at s) ≡ some (b, next - at)) × (at < next) × (next ≤ length s)

pub record OneAt (f : Form) (s : List ℕ) (at : ℕ) (r : Option (ℕ × ℕ)) : Type 0 where
  pub told : OneIs f s at r
