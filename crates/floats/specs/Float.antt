-- The text of floats, and the token that reads it (02, A8). Assumes nothing: these are definitions.
use Rattle.std.specs.Prelude.{ℕ, Bool, true, false, List, [], ◌++◌, Float}
use Rattle.std.proofs.Math.Option.{Option, none, some}
use Rattle.std.specs.Float.{nan, inf, fin}
use Rattle.output.specs.Logic.{if, then, or, ascii}
use Rattle.text_rules.specs.Texts.{strip, same}
use Rattle.text_rules.specs.Words.{word, behind_word}
use Rattle.numbers.specs.Decimal.{sign}
use Rattle.floats.specs.Whole.{whole_text, whole_number}
use Rattle.floats.specs.Value.{magnitude, whole_float}

-- ---- the text

-- a minus if negative, then the whole number; a finite float that is none up to the most has no text
unfoldable pub signed_text : Bool → Option ℕ → List ℕ
signed_text s none = []
signed_text s (some n) = sign s ++ whole_text n

unfoldable pub float_text : Float → List ℕ
float_text nan = ascii "nan"
float_text (inf s) = if s (ascii "-inf") (ascii "+inf")
float_text (fin s m e) = signed_text s (magnitude (fin s m e))

-- ---- the token: exactly these texts

unfoldable pub nan_word : List ℕ → Option (Float × List ℕ)
nan_word t = if (same (ascii "nan") (word t)) (some (nan, behind_word t)) none

-- an infinity, by its spelling
unfoldable pub spelled : List ℕ → Bool → List ℕ → Option (Float × List ℕ)
spelled w s t = then (strip w t) (λ r. some (inf s, r))

-- a whole number, by its sign, which is passed
unfoldable pub signed_whole : Bool → List ℕ → Option (Float × List ℕ)
signed_whole s t = then (whole_number t) (λ r. some (whole_float s r.0, r.1))

unfoldable pub float : List ℕ → Option (Float × List ℕ)
float t =
    or (nan_word t)
    (or (spelled (ascii "+inf") false t)
    (or (spelled (ascii "-inf") true t)
    (or (signed_whole false t) (then (strip (ascii "-") t) (signed_whole true)))))
