-- The spellings of a list: what bytes a tape's hex digits and a text mean. Assumes nothing: these are definitions.
use Rattle.std.specs.Prelude.{ℕ, zero, suc, ◌-◌, ◌≤◌, ◌≡◌, List, [], ◌∷◌, ◌++◌, length, get_or, drop, leb, eqb}
use Rattle.std.proofs.Math.Option.{Option, none, some}
use Rattle.output.specs.Logic.{if, then, byte}
use Rattle.text_rules.specs.Escapes.{hex}
use Rattle.tape.specs.Tape.{reading}
use Rattle.listing.specs.declared.decode.Form.{Form}
use Rattle.listing.specs.declared.decode.Form.TheVariants.{Hex, Text}
use Rattle.std.specs.Prelude as P

-- the byte that l starts with, and how many bytes spell it: two hex digits; in a text these behind `%`, and any other byte itself
unfoldable pub one_byte : Form → List ℕ → Option (ℕ × ℕ)
one_byte Hex l = then (hex 2 0 l) (λ v. some (v.0, 2))
one_byte Text l = if (eqb (get_or l 0 0) (byte "%")) (then (hex 2 0 (drop 1 l)) (λ v. some (v.0, 3))) (some (get_or l 0 0, 1))

-- all bytes that l spells, where the first n bytes of l belong to what stands before it
unfoldable pub bytes_of : Form → ℕ → List ℕ → Option (List ℕ)
bytes_of f zero [] = some []
bytes_of f (suc n) [] = none
bytes_of f (suc n) (c ∷ l) = bytes_of f n l
bytes_of f zero (c ∷ l) = reading (one_byte f (c ∷ l)) none (λ b w. then (bytes_of f (w - 1) l) (λ s. some (b ∷ s)))

-- what is answered for a buffer of n bytes: how many bytes are spelled, if they fit
abbrev pub decoded_as : Option (List ℕ) → ℕ → P.Option ℕ
decoded_as none n = P.None
decoded_as (some s) n = if (leb (length s) n) (P.Some (length s)) P.None

-- what was answered, and that the bytes lie at the start of the buffer, which took it from a to b
pub record Decodes (o : Option (List ℕ)) (a b : List ℕ) (r : P.Option ℕ) : Type 0 where
  pub answer : r ≡ decoded_as o (length a)
  pub bytes : (s : List ℕ) → o ≡ some s → length s ≤ length a → b ≡ s ++ drop (length s) a
