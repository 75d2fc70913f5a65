-- Bare words, and the rule by which a symbol's text is quoted. Assumes nothing: these are definitions.
use Rattle.std.specs.Prelude.{ℕ, Bool, false, ◌||◌, ◌&&◌, not, List, [], ◌∷◌, eqb, leb, drop}
use Rattle.output.specs.Logic.{if, on, byte, ascii}
use Rattle.text_rules.specs.Digits.{is_digit, run, behind_digits, number, whole}
use Rattle.text_rules.specs.Texts.{empty, starts, strip, same}
use Rattle.text_rules.specs.declared.words.Kind.{Kind}
use Rattle.text_rules.specs.declared.words.Kind.TheVariants.{Null, True, False, Nan, Marker, Number, Text, Refused}

-- `$`, `_` or ASCII letter
unfoldable pub is_start : ℕ → Bool
is_start c = eqb c (byte "$") || eqb c (byte "_") || leb (byte "A") c && leb c (byte "Z") || leb (byte "a") c && leb c (byte "z")

-- these or digits
unfoldable pub is_part : ℕ → Bool
is_part c = is_start c || is_digit c

-- the bytes of identifiers that a text starts with, and the text behind them
unfoldable pub word : List ℕ → List ℕ
word [] = []
word (c ∷ t) = if (is_part c) (c ∷ word t) []

unfoldable pub behind_word : List ℕ → List ℕ
behind_word [] = []
behind_word (c ∷ t) = if (is_part c) (behind_word t) (c ∷ t)

-- one digit at least, and nothing else
unfoldable pub all_digits : List ℕ → Bool
all_digits [] = false
all_digits (c ∷ t) = is_digit c && empty (behind_digits t)

-- true, false, nan or null
unfoldable pub is_keyword : List ℕ → Bool
is_keyword w = same (ascii "true") w || same (ascii "false") w || same (ascii "nan") w || same (ascii "null") w

-- `$` and digits
unfoldable pub resembles_symbol_id : List ℕ → Bool
resembles_symbol_id w = starts (byte "$") w && all_digits (drop 1 w)

-- digits, `_` and digits
unfoldable pub version : List ℕ → Bool
version t = not (empty (run t)) && starts (byte "_") (behind_digits t) && all_digits (drop 1 (behind_digits t))

-- `$ion_` digits `_` digits
unfoldable pub resembles_version_marker : List ℕ → Bool
resembles_version_marker w = on (strip (ascii "$ion_") w) version false

-- an identifier: `$`, `_` or ASCII letter, then these or digits
unfoldable pub is_identifier : List ℕ → Bool
is_identifier [] = false
is_identifier (c ∷ t) = is_start c && empty (behind_word t)

-- ---- bare words, read

-- the number behind `$`: 0 or digits without leading zero, at most 4,294,967,295
unfoldable pub symbol_id : List ℕ → Kind
symbol_id ds = if (whole ds && leb (number 0 ds) 4_294_967_295) (Number (number 0 ds)) Refused

-- What a word of identifier bytes is where it stands bare. Quoted-only spellings that mean nothing else are refused.
unfoldable pub kind_of : List ℕ → Kind
kind_of w =
    if (same (ascii "null") w) Null
    (if (same (ascii "true") w) True
    (if (same (ascii "false") w) False
    (if (same (ascii "nan") w) Nan
    (if (resembles_version_marker w) (if (same (ascii "$ion_1_0") w) Marker Refused)
    (if (resembles_symbol_id w) (symbol_id (drop 1 w))
    (if (is_identifier w) Text Refused))))))
