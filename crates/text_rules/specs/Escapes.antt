-- Escapes: the letters, hex digits, and the kind of each byte in the table. Assumes nothing: these are definitions.
use Rattle.std.specs.Prelude.{ℕ, zero, suc, ◌+◌, ◌-◌, ◌*◌, ◌/◌, ◌%◌, ◌<◌, Bool, ◌&&◌, ◌||◌, List, [], ◌∷◌, ◌++◌, ◌≡◌, leb, ltb, eqb, get_or}
use Rattle.std.proofs.Math.Option.{Option, none, some}
use Rattle.output.specs.Logic.{if, then, byte}

-- The short letters: NUL `\0`, 7 `\a`, 8 `\b`, tab `\t`, LF `\n`, 11 `\v`, 12 `\f`, CR `\r`; backslash and the quote marks stand for themselves
unfoldable pub letter_of : ℕ → ℕ
letter_of c =
    if (eqb c 0) (byte "0")
    (if (eqb c 7) (byte "a")
    (if (eqb c 8) (byte "b")
    (if (eqb c 9) (byte "t")
    (if (eqb c 10) (byte "n")
    (if (eqb c 11) (byte "v")
    (if (eqb c 12) (byte "f")
    (if (eqb c 13) (byte "r") c)))))))

-- NUL, 7 to 13, the double quote mark and the backslash: escaped by a letter in text and in clobs
unfoldable pub has_letter : ℕ → Bool
has_letter c = eqb c 0 || leb 7 c && leb c 13 || eqb c (byte "\"") || eqb c (byte "\\")

-- The kind of a byte in the table of 256: 1 a short letter; 0 raw, hex 20 to 7E; 2 `\x` with two hex digits
unfoldable pub escape_kind : ℕ → ℕ
escape_kind c = if (has_letter c) 1 (if (leb 0x20 c && leb c 0x7E) 0 2)

-- a table of these kinds
pub record EscapeTable (t : List ℕ) : Type 0 where
  pub at : (c : ℕ) → c < 256 → get_or t c 0 ≡ escape_kind c

-- a lower-case hex digit
unfoldable pub hex_digit : ℕ → ℕ
hex_digit d = if (ltb d 10) (byte "0" + d) (byte "a" + (d - 10))

-- `\x` with two lower-case hex digits
abbrev pub hex_escape : ℕ → List ℕ
hex_escape c = byte "\\" ∷ byte "x" ∷ hex_digit (c / 16) ∷ hex_digit (c % 16) ∷ []

-- ---- text: quoted text and strings escape NUL, 7 to 13, backslash and both quote marks by a letter, the other control characters below U+0020 by
-- hex digits (02, A5); other characters go raw

-- U+0001 to U+0006 and U+000E to U+001F: escaped by hex digits in text
unfoldable pub has_hex : ℕ → Bool
has_hex c = leb 1 c && leb c 6 || leb 0x0E c && leb c 0x1F

unfoldable pub text_escape : ℕ → List ℕ
text_escape c =
    if (has_letter c || eqb c (byte "'")) (byte "\\" ∷ letter_of c ∷ [])
    (if (has_hex c) (hex_escape c) (c ∷ []))

unfoldable pub text_body : List ℕ → List ℕ
text_body [] = []
text_body (c ∷ s) = text_escape c ++ text_body s

-- ---- clobs: hex 20 to 7E raw but for `"` and backslash, the short letters, and `\x` with two lower-case hex digits elsewhere

unfoldable pub clob_escape : ℕ → List ℕ
clob_escape c =
    if (has_letter c) (byte "\\" ∷ letter_of c ∷ [])
    (if (leb 0x20 c && leb c 0x7E) (c ∷ []) (hex_escape c))

unfoldable pub clob_body : List ℕ → List ℕ
clob_body [] = []
clob_body (c ∷ s) = clob_escape c ++ clob_body s

-- ---- escapes, read

-- what a letter behind a backslash stands for: the escapes above, `\/` and `\?`
unfoldable pub letter : ℕ → Option ℕ
letter c =
    if (eqb c (byte "0")) (some 0)
    (if (eqb c (byte "a")) (some 7)
    (if (eqb c (byte "b")) (some 8)
    (if (eqb c (byte "t")) (some 9)
    (if (eqb c (byte "n")) (some 10)
    (if (eqb c (byte "v")) (some 11)
    (if (eqb c (byte "f")) (some 12)
    (if (eqb c (byte "r")) (some 13)
    (if (eqb c (byte "\\") || eqb c (byte "\"") || eqb c (byte "'") || eqb c (byte "/") || eqb c (byte "?")) (some c) none))))))))

-- the value of a hex digit of either case
unfoldable pub hex_value : ℕ → Option ℕ
hex_value c =
    if (leb (byte "0") c && leb c (byte "9")) (some (c - byte "0"))
    (if (leb (byte "a") c && leb c (byte "f")) (some (10 + (c - byte "a")))
    (if (leb (byte "A") c && leb c (byte "F")) (some (10 + (c - byte "A"))) none))

-- w hex digits, joined behind those whose number is a, and the text behind them
unfoldable pub hex : ℕ → ℕ → List ℕ → Option (ℕ × List ℕ)
hex zero a t = some (a, t)
hex (suc w) a [] = none
hex (suc w) a (c ∷ t) = then (hex_value c) (λ d. hex w (a * 16 + d) t)
