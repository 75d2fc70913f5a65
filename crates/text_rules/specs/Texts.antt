-- Small questions about a text. Assumes nothing: these are definitions.
use Rattle.std.specs.Prelude.{ℕ, Bool, true, false, ◌||◌, ◌&&◌, List, [], ◌∷◌, eqb, leb}
use Rattle.std.proofs.Math.Option.{Option, none, some}
use Rattle.output.specs.Logic.{if, on, byte}

abbrev pub empty : List ℕ → Bool
empty [] = true
empty (c ∷ t) = false

-- the text starts with the byte b
unfoldable pub starts : ℕ → List ℕ → Bool
starts b [] = false
starts b (c ∷ t) = eqb c b

-- the text behind a word that it starts with
unfoldable pub strip : List ℕ → List ℕ → Option (List ℕ)
strip [] t = some t
strip (w ∷ ws) [] = none
strip (w ∷ ws) (c ∷ t) = if (eqb c w) (strip ws t) none

-- the text is the word, whole
unfoldable pub same : List ℕ → List ℕ → Bool
same w t = on (strip w t) empty false

-- Blanks are space, tab, LF, 11, 12, CR: the last five are 9 to 13
unfoldable pub blank : ℕ → Bool
blank c = eqb c (byte " ") || leb 9 c && leb c 13

-- What may follow a token: a blank, a comma, a closing bracket; behind a name or an annotation also a colon. It serves the theorems that
-- what is written reads back.
unfoldable pub delimiter : ℕ → Bool
delimiter c = blank c || eqb c (byte ",") || eqb c (byte "]") || eqb c (byte ")") || eqb c (byte "}") || eqb c (byte ":")

-- nothing follows a token, or what may follow it does
unfoldable pub ended : List ℕ → Bool
ended [] = true
ended (c ∷ t) = delimiter c
