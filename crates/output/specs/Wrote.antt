-- Bytes laid into a lent buffer at a position. Assumes nothing: these are definitions.
use Rattle.std.specs.Prelude.{◌≡◌, ℕ, zero, suc, ◌+◌, ◌/◌, ◌%◌, ◌<◌, min, List, [], ◌∷◌, length}
use Rattle.std.proofs.lemmas.List.Edits.{sets}

-- more than any buffer's length: a position is counted up to here
abbrev pub limit : ℕ
limit = 9223372036854775808

-- Writing s at pos took the buffer from a to b and the position to r. What lies past the buffer's end is counted and not
-- written, so a buffer of no bytes measures.
pub record Wrote (a b : List ℕ) (pos r : ℕ) (s : List ℕ) : Type 0 where
  pub bytes : b ≡ sets a pos s
  pub count : r ≡ min (pos + length s) limit
  pub room : length a < limit

-- the w lowest bytes of n, the lowest first
unfoldable pub le_bytes : ℕ → ℕ → List ℕ
le_bytes zero n = []
le_bytes (suc w) n = n % 256 ∷ le_bytes w (n / 256)
