-- What the converter writes: "the same bytes with each such raw character replaced by `\x` and two lower-case hex digits" (02, A6).
-- Assumes nothing: these are definitions.
use Rattle.std.specs.Prelude.{ℕ, Bool, true, not, ◌&&◌, List, [], ◌∷◌, ◌++◌}
use Rattle.output.specs.Logic.{if}
use Rattle.text_rules.specs.Escapes.{hex_escape}
use Rattle.tokens.specs.Quoted.{old_raw, strict_raw}

-- what 01 takes raw and Ion does not: U+0000 to U+0008 and U+000E to U+001F
unfoldable pub replaced : ℕ → Bool
replaced c = old_raw c && not (strict_raw c)

-- what stands in the output for a byte
abbrev pub replacement : ℕ → List ℕ
replacement c = if (replaced c) (hex_escape c) (c ∷ [])

-- Byte by byte: in a text of the old grammar such a byte stands raw in quoted text and nowhere else. Elsewhere the output would have a backslash where the
-- grammar takes none, or one byte of a clob in two ways, and it would not mean what the text meant (`converted_means`).
unfoldable pub converted : List ℕ → List ℕ
converted [] = []
converted (c ∷ s) = replacement c ++ converted s

-- no such character stands in the text
unfoldable pub clean : List ℕ → Bool
clean [] = true
clean (c ∷ s) = not (replaced c) && clean s
