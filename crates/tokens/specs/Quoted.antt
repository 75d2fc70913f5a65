-- Quoted text and clobs, read. Assumes nothing: these are definitions.
use Rattle.std.specs.Prelude.{ℕ, zero, suc, Bool, true, false, not, ◌&&◌, ◌||◌, List, [], ◌∷◌, ◌++◌, eqb, leb, length, take, drop}
use Rattle.std.proofs.Math.Option.{Option, none, some}
use Rattle.output.specs.Logic.{if, then, on, byte, ascii}
use Rattle.text_rules.specs.Texts.{starts, strip}
use Rattle.text_rules.specs.Utf8.{char_at, is_scalar, utf8}
use Rattle.text_rules.specs.Escapes.{letter, hex}

-- the text behind the mark q that it starts with
unfoldable pub quote : ℕ → List ℕ → Option (List ℕ)
quote q [] = none
quote q (c ∷ t) = if (eqb c q) (some t) none

-- the marks of quoted text: of symbols, and of strings
pub data Mark : ℕ → Type 0 where
  symbol_mark : Mark (byte "'")
  string_mark : Mark (byte "\"")

-- `\x`, `\u`, `\U` with w hex digits naming a scalar value: its UTF-8
unfoldable pub scalar_escape : ℕ → List ℕ → Option (List ℕ × List ℕ)
scalar_escape w t = then (hex w 0 t) (λ v. if (is_scalar v.0) (some (utf8 v.0, v.1)) none)

-- the short letters
unfoldable pub letter_escape : List ℕ → Option (List ℕ × List ℕ)
letter_escape [] = none
letter_escape (c ∷ t) = then (letter c) (λ v. some (v ∷ [], t))

-- what stands behind a backslash in quoted text
unfoldable pub escape : List ℕ → Option (List ℕ × List ℕ)
escape t =
    if (starts (byte "x") t) (scalar_escape 2 (drop 1 t))
    (if (starts (byte "u") t) (scalar_escape 4 (drop 1 t))
    (if (starts (byte "U") t) (scalar_escape 8 (drop 1 t))
    (letter_escape t)))

-- 01's raw rule: every character but the line's ends. The mark and the backslash are looked for before, and whether it starts a character is
-- UTF-8's to say.
unfoldable pub old_raw : ℕ → Bool
old_raw c = not (eqb c 10 || eqb c 13)

-- Ion's (02, A6): no control character below U+0020 but tab, 11 and 12
unfoldable pub strict_raw : ℕ → Bool
strict_raw c = leb 0x20 c || eqb c 9 || eqb c 11 || eqb c 12

-- the rule that a reader goes by: 01's for stored lists, else Ion's
unfoldable pub raw_rule : Bool → ℕ → Bool
raw_rule true = old_raw
raw_rule false = strict_raw

-- Quoted text, by what a raw character may be.
module _ (is_raw : ℕ → Bool) where
  -- a raw character: valid UTF-8
  unfoldable pub raw : List ℕ → Option (List ℕ × List ℕ)
  raw [] = none
  raw (c ∷ t) = if (is_raw c && leb 1 (char_at (c ∷ t) 0)) (some (take (char_at (c ∷ t) 0) (c ∷ t), drop (char_at (c ∷ t) 0) (c ∷ t))) none

  -- one character of quoted text, whose mark was looked for before
  unfoldable pub character : List ℕ → Option (List ℕ × List ℕ)
  character t = if (starts (byte "\\") t) (escape (drop 1 t)) (raw t)

  -- The characters of quoted text, through its mark q, in f steps at most. Each takes a byte at least, so for a text of n bytes every f above n
  -- gives the same (`characters_enough`).
  unfoldable pub characters : ℕ → ℕ → List ℕ → Option (List ℕ × List ℕ)
  characters zero q t = none
  characters (suc f) q t =
      on (quote q t)
      (λ r. some ([], r))
      (then (character t) (λ v. then (characters f q v.1) (λ vs. some (v.0 ++ vs.0, vs.1))))

  -- the text behind an opening mark q, through the next
  unfoldable pub quoted : ℕ → List ℕ → Option (List ℕ × List ℕ)
  quoted q t = characters (suc (length t)) q t

  -- a string: its bytes, and the text behind it
  unfoldable pub string : List ℕ → Option (List ℕ × List ℕ)
  string t = if (starts (byte "\"") t) (quoted (byte "\"") (drop 1 t)) none

-- ---- clobs: raw bytes as printed, the escapes without `\u` and `\U`, `\x` naming one byte

unfoldable pub byte_escape : List ℕ → Option (List ℕ × List ℕ)
byte_escape t = if (starts (byte "x") t) (then (hex 2 0 (drop 1 t)) (λ v. some (v.0 ∷ [], v.1))) (letter_escape t)

unfoldable pub raw_byte : List ℕ → Option (List ℕ × List ℕ)
raw_byte [] = none
raw_byte (c ∷ t) = if (leb 0x20 c && leb c 0x7E) (some (c ∷ [], t)) none

unfoldable pub clob_byte : List ℕ → Option (List ℕ × List ℕ)
clob_byte t = if (starts (byte "\\") t) (byte_escape (drop 1 t)) (raw_byte t)

-- the bytes of a clob, through `"`, in f steps at most, in the same way (`clob_enough`)
unfoldable pub clob_bytes : ℕ → List ℕ → Option (List ℕ × List ℕ)
clob_bytes zero t = none
clob_bytes (suc f) t =
    on (quote (byte "\"") t)
    (λ r. some ([], r))
    (then (clob_byte t) (λ v. then (clob_bytes f v.1) (λ vs. some (v.0 ++ vs.0, vs.1))))

-- one token: `{{"`, bytes, `"}}`
unfoldable pub clob : List ℕ → Option (List ℕ × List ℕ)
clob t =
    then (strip (ascii "{{\"") t) (λ u.
    then (clob_bytes (suc (length u)) u) (λ v.
    then (strip (ascii "}}") v.1) (λ r. some (v.0, r))))
