-- Worked examples of what tokens read and refuse, by computation: they pin the definitions where nothing that is written reaches them.
-- Assumes nothing.
use mathlib.Core.Path.{◌≡◌, refl}
use mathlib.Core.Bool.{Bool, true, false}
use mathlib.Core.List.{List, [], ◌∷◌, ◌++◌}
use mathlib.Core.Option.{none, some}
use Prim.Native.Nat.{ℕ}
use Rattle.output.specs.Logic.{byte, ascii}
use Rattle.text_rules.specs.Text.{Sym, blob_text}
use Rattle.text_rules.specs.Texts.{starts, strip, same}
use Rattle.text_rules.specs.Digits.{is_digit, run, behind_digits, number, whole}
use Rattle.text_rules.specs.Words.{is_start, is_part, word, behind_word, all_digits, resembles_symbol_id, version, resembles_version_marker, is_identifier, symbol_id, kind_of}
use Rattle.text_rules.specs.Utf8.{is_scalar, utf8, char_of, lead_of, is_cont, ok2, ok3, ok4}
use Rattle.text_rules.specs.Base64.{alphabet, base64_character, characters24, base64, place_from, base64_value, bits_of, bytes24, first_bytes, padded, base64_bytes}
use Rattle.text_rules.specs.Escapes.{letter, hex_value, hex}
use Rattle.tokens.specs.Quoted.{quote, scalar_escape, letter_escape, escape, old_raw, strict_raw, raw, character, characters, quoted, string, byte_escape, raw_byte, clob_byte, clob_bytes, clob}
use Rattle.tokens.specs.Blob.{until_brace, blob_rest, blob}
use Rattle.tokens.specs.Token.{bare_symbol, quoted_symbol, symbol, type_of, null_behind, null, bool}

-- the string `"s"`, read whole by a raw rule
abbrev ReadsBy : (ℕ → Bool) → List ℕ → List ℕ → Type 0
ReadsBy is_raw s x = string is_raw (byte "\"" ∷ (s ++ (byte "\"" ∷ []))) ≡ some (x, [])

abbrev RefusesBy : (ℕ → Bool) → List ℕ → Type 0
RefusesBy is_raw s = string is_raw (byte "\"" ∷ (s ++ (byte "\"" ∷ []))) ≡ none

-- by both
abbrev Reads : List ℕ → List ℕ → Type 0
Reads s x = ReadsBy old_raw s x × ReadsBy strict_raw s x

abbrev Refuses : List ℕ → Type 0
Refuses s = RefusesBy old_raw s × RefusesBy strict_raw s

-- the short letters, both quote marks, `\/` and `\?`
pub letters : Reads (ascii "\\0\\a\\b\\t\\n\\v\\f\\r\\\\\\\"\\'\\/\\?") (0 ∷ 7 ∷ 8 ∷ 9 ∷ 10 ∷ 11 ∷ 12 ∷ 13 ∷ ascii "\\\"'/?")
unfolding string quoted characters quote character escape scalar_escape letter_escape raw old_raw strict_raw letter hex_value hex is_scalar utf8 char_of lead_of is_cont ok2 ok3 ok4 starts
letters = (refl, refl)

-- `\x`, `\u`, `\U` with 2, 4, 8 hex digits of either case, naming a scalar value
pub hex_read : Reads (ascii "\\x41\\u00E9\\u00e9\\U0001F600") (0x41 ∷ 0xC3 ∷ 0xA9 ∷ 0xC3 ∷ 0xA9 ∷ 0xF0 ∷ 0x9F ∷ 0x98 ∷ 0x80 ∷ [])
unfolding string quoted characters quote character escape scalar_escape letter_escape raw old_raw strict_raw letter hex_value hex is_scalar utf8 char_of lead_of is_cont ok2 ok3 ok4 starts
hex_read = (refl, refl)

pub hex_high : Reads (ascii "\\xe9") (0xC3 ∷ 0xA9 ∷ [])
unfolding string quoted characters quote character escape scalar_escape letter_escape raw old_raw strict_raw letter hex_value hex is_scalar utf8 char_of lead_of is_cont ok2 ok3 ok4 starts
hex_high = (refl, refl)

-- too few digits, no digit, a surrogate, a value past hex 10FFFF, an unknown letter, a backslash before LF
pub hex-refused : Refuses (ascii "\\x4") × Refuses (ascii "\\u12g4") × Refuses (ascii "\\U0001F60") × Refuses (ascii "\\ud800") × Refuses (ascii "\\U00110000") × Refuses (ascii "\\q") × Refuses (byte "\\" ∷ 10 ∷ [])
unfolding string quoted characters quote character escape scalar_escape letter_escape raw old_raw strict_raw letter hex_value hex is_scalar utf8 char_of lead_of is_cont ok2 ok3 ok4 starts
hex-refused = ((refl, refl), (refl, refl), (refl, refl), (refl, refl), (refl, refl), (refl, refl), (refl, refl))

-- raw: tab, 11, 12, hex 7F, and the other quote mark; no LF, no CR, no broken UTF-8
pub raw_read : Reads (9 ∷ 11 ∷ 12 ∷ 0x7F ∷ byte "'" ∷ 0xC3 ∷ 0xA9 ∷ []) (9 ∷ 11 ∷ 12 ∷ 0x7F ∷ byte "'" ∷ 0xC3 ∷ 0xA9 ∷ [])
unfolding string quoted characters quote character escape scalar_escape letter_escape raw old_raw strict_raw letter hex_value hex is_scalar utf8 char_of lead_of is_cont ok2 ok3 ok4 starts
raw_read = (refl, refl)

pub raw-refused : Refuses (10 ∷ []) × Refuses (13 ∷ []) × Refuses (0xC0 ∷ 0x80 ∷ []) × Refuses (0xED ∷ 0xA0 ∷ 0x80 ∷ []) × Refuses (0xF4 ∷ 0x90 ∷ 0x80 ∷ 0x80 ∷ []) × Refuses (0xE9 ∷ [])
unfolding string quoted characters quote character escape scalar_escape letter_escape raw old_raw strict_raw letter hex_value hex is_scalar utf8 char_of lead_of is_cont ok2 ok3 ok4 starts
raw-refused = ((refl, refl), (refl, refl), (refl, refl), (refl, refl), (refl, refl), (refl, refl))

-- other controls by 01's rule alone
pub controls_read : ReadsBy old_raw (0 ∷ 1 ∷ 8 ∷ 14 ∷ 0x1F ∷ []) (0 ∷ 1 ∷ 8 ∷ 14 ∷ 0x1F ∷ [])
unfolding string quoted characters quote character escape scalar_escape letter_escape raw old_raw strict_raw letter hex_value hex is_scalar utf8 char_of lead_of is_cont ok2 ok3 ok4 starts
controls_read = refl

pub controls_refused : RefusesBy strict_raw (0 ∷ []) × RefusesBy strict_raw (1 ∷ []) × RefusesBy strict_raw (8 ∷ []) × RefusesBy strict_raw (14 ∷ []) × RefusesBy strict_raw (0x1F ∷ [])
unfolding string quoted characters quote character escape scalar_escape letter_escape raw old_raw strict_raw letter hex_value hex is_scalar utf8 char_of lead_of is_cont ok2 ok3 ok4 starts
controls_refused = (refl, refl, refl, refl, refl)

-- a clob is one token: hex 20 to 7E raw, the letters, `\x` naming one byte
pub clobs : clob (ascii "{{\"a\\xE9\\'\\/\\?'\"}}") ≡ some (byte "a" ∷ 0xE9 ∷ ascii "'/?'", [])
unfolding clob clob_bytes clob_byte byte_escape raw_byte letter_escape quote letter hex_value hex starts strip
clobs = refl

pub clobs_refused : (clob (ascii "{{ \"a\"}}") ≡ none) × (clob (ascii "{{\"a\" }}") ≡ none) × (clob (ascii "{{\"" ++ (0x7F ∷ ascii "\"}}")) ≡ none) × (clob (ascii "{{\"" ++ (9 ∷ ascii "\"}}")) ≡ none) × (clob (ascii "{{\"\\u0041\"}}") ≡ none) × (clob (ascii "{{\"a\"}") ≡ none)
unfolding clob clob_bytes clob_byte byte_escape raw_byte letter_escape quote letter hex_value hex starts strip
clobs_refused = (refl, refl, refl, refl, refl, refl)

-- a blob is one token: RFC 4648's test vectors (section 10), both ways
abbrev BothWays : List ℕ → List ℕ → Type 0
BothWays t s = (blob t ≡ some (s, [])) × (blob_text s ≡ t)

pub blobs : BothWays (ascii "{{}}") [] × BothWays (ascii "{{Zg==}}") (ascii "f") × BothWays (ascii "{{Zm8=}}") (ascii "fo") × BothWays (ascii "{{Zm9v}}") (ascii "foo") × BothWays (ascii "{{Zm9vYg==}}") (ascii "foob") × BothWays (ascii "{{Zm9vYmE=}}") (ascii "fooba") × BothWays (ascii "{{Zm9vYmFy}}") (ascii "foobar")
unfolding blob blob_rest until_brace base64_bytes padded first_bytes bits_of bytes24 base64_value place_from alphabet blob_text base64 characters24 base64_character strip
blobs = ((refl, refl), (refl, refl), (refl, refl), (refl, refl), (refl, refl), (refl, refl), (refl, refl))

-- `+` and `/` are characters; the text goes on behind `}}`
pub blob_marks : (blob (ascii "{{+/+/}} ") ≡ some (0xFB ∷ 0xFF ∷ 0xBF ∷ [], ascii " ")) × (blob (ascii "{{AA==}}}") ≡ some (0 ∷ [], ascii "}"))
unfolding blob blob_rest until_brace base64_bytes padded first_bytes bits_of bytes24 base64_value place_from alphabet strip
blob_marks = (refl, refl)

-- a blank inside, missing padding, one `=` of two, unused bits that are not zero, the URL alphabet
pub blobs_refused : (blob (ascii "{{ Zg==}}") ≡ none) × (blob (ascii "{{Zg==\n}}") ≡ none) × (blob (ascii "{{Zm9v YmFy}}") ≡ none) × (blob (ascii "{{Zg}}") ≡ none) × (blob (ascii "{{Zg=}}") ≡ none) × (blob (ascii "{{Zh==}}") ≡ none) × (blob (ascii "{{Zm9=}}") ≡ none) × (blob (ascii "{{-_-_}}") ≡ none)
unfolding blob blob_rest until_brace base64_bytes padded first_bytes bits_of bytes24 base64_value place_from alphabet strip
blobs_refused = (refl, refl, refl, refl, refl, refl, refl, refl)

-- padding in the middle, too much of it, one closing brace, a blank between two, a clob
pub blobs_unclosed : (blob (ascii "{{Zg==Zm8=}}") ≡ none) × (blob (ascii "{{Zm9v====}}") ≡ none) × (blob (ascii "{{Z===}}") ≡ none) × (blob (ascii "{{Zg==}") ≡ none) × (blob (ascii "{{Zg==} }") ≡ none) × (blob (ascii "{{Zg==") ≡ none) × (blob (ascii "{Zg==}}") ≡ none) × (blob (ascii "{{\"") ≡ none) × (blob (ascii "{{\"Zg==\"}}") ≡ none)
unfolding blob blob_rest until_brace base64_bytes padded first_bytes bits_of bytes24 base64_value place_from alphabet strip
blobs_unclosed = (refl, refl, refl, refl, refl, refl, refl, refl, refl)

-- symbols: `$` with 0 or digits without leading zero, at most 4,294,967,295; quoted-only spellings are refused bare
abbrev Symbols : (ℕ → Bool) → Type 0
Symbols is_raw = (symbol is_raw (ascii "$0 ") ≡ some (Sym.id 0, ascii " ")) × (symbol is_raw (ascii "$4294967295") ≡ some (Sym.id 4294967295, [])) × (symbol is_raw (ascii "$ion_1_0_0,") ≡ some (Sym.text (ascii "$ion_1_0_0"), ascii ",")) × (symbol is_raw (ascii "'$7'") ≡ some (Sym.text (ascii "$7"), [])) × (symbol is_raw (ascii "''") ≡ some (Sym.text [], []))

pub symbols : Symbols old_raw × Symbols strict_raw
unfolding symbol bare_symbol quoted_symbol quoted characters quote character escape scalar_escape letter_escape raw old_raw strict_raw letter hex_value hex char_of lead_of is_cont ok2 ok3 ok4 starts strip same word behind_word kind_of is_part is_start is_digit resembles_version_marker resembles_symbol_id version all_digits run behind_digits number whole symbol_id is_identifier
symbols = ((refl, refl, refl, refl, refl), (refl, refl, refl, refl, refl))

abbrev NoSymbols : (ℕ → Bool) → Type 0
NoSymbols is_raw = (symbol is_raw (ascii "$01") ≡ none) × (symbol is_raw (ascii "$4294967296") ≡ none) × (symbol is_raw (ascii "$ion_1_1") ≡ none) × (symbol is_raw (ascii "$ion_1_0") ≡ none) × (symbol is_raw (ascii "true") ≡ none) × (symbol is_raw (ascii "nan") ≡ none) × (symbol is_raw (ascii "7up") ≡ none) × (symbol is_raw (ascii "'a") ≡ none)

pub symbols_refused : NoSymbols old_raw × NoSymbols strict_raw
unfolding symbol bare_symbol quoted_symbol quoted characters quote character escape scalar_escape letter_escape raw old_raw strict_raw letter hex_value hex char_of lead_of is_cont ok2 ok3 ok4 starts strip same word behind_word kind_of is_part is_start is_digit resembles_version_marker resembles_symbol_id version all_digits run behind_digits number whole symbol_id is_identifier
symbols_refused = ((refl, refl, refl, refl, refl, refl, refl, refl), (refl, refl, refl, refl, refl, refl, refl, refl))

-- nulls: `null` and a type; `null.null` prints as `null`, and is refused
pub nulls : (null (ascii "null]") ≡ some (0, ascii "]")) × (null (ascii "null.struct") ≡ some (12, [])) × (null (ascii "null.null") ≡ none) × (null (ascii "null.integer") ≡ none) × (null (ascii "null.") ≡ none) × (null (ascii "nulls") ≡ none)
unfolding null null_behind type_of bool starts strip same word behind_word kind_of is_part is_start is_digit resembles_version_marker resembles_symbol_id version all_digits run behind_digits number whole symbol_id is_identifier
nulls = (refl, refl, refl, refl, refl, refl)

pub bools : (bool (ascii "true)") ≡ some (true, ascii ")")) × (bool (ascii "false") ≡ some (false, [])) × (bool (ascii "True") ≡ none)
unfolding null null_behind type_of bool starts strip same word behind_word kind_of is_part is_start is_digit resembles_version_marker resembles_symbol_id version all_digits run behind_digits number whole symbol_id is_identifier
bools = (refl, refl, refl)
