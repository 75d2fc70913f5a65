-- What `text_formatter` writes: symbols, strings, clobs, blobs, nulls, bools. Assumes nothing: these are definitions.
use Rattle.std.specs.Prelude.{ℕ, Bool, ◌||◌, List, [], ◌∷◌, ◌++◌, eqb}
use Rattle.output.specs.Logic.{if, byte, ascii}
use Rattle.text_rules.specs.Digits.{digits}
use Rattle.text_rules.specs.Words.{is_keyword, resembles_symbol_id, resembles_version_marker, is_identifier}
use Rattle.text_rules.specs.Escapes.{text_body, clob_body}
use Rattle.text_rules.specs.Base64.{base64}

-- a symbol: its text, or its number
pub data Sym : Type 0 where
  text : List ℕ → Sym
  id : ℕ → Sym

-- text between two marks q, with its escapes
abbrev pub marked : ℕ → List ℕ → List ℕ
marked q s = q ∷ (text_body s ++ (q ∷ []))

-- "A setting … under which every symbol text is quoted". With it off, text is quoted if it is true, false, nan or null, or `$` and digits, or `$ion_` digits
-- `_` digits; else bare if it is an identifier; else quoted
unfoldable pub symbol_text : Bool → List ℕ → List ℕ
symbol_text quoted s =
    if (quoted || is_keyword s || resembles_symbol_id s || resembles_version_marker s) (marked (byte "'") s)
    (if (is_identifier s) s (marked (byte "'") s))

-- an identifier prints `$` and its number
unfoldable pub symbol_id_text : ℕ → List ℕ
symbol_id_text n = byte "$" ∷ digits n

unfoldable pub string_text : List ℕ → List ℕ
string_text s = marked (byte "\"") s

-- a clob is `{{"`, bytes, `"}}`
unfoldable pub clob_text : List ℕ → List ℕ
clob_text s = ascii "{{\"" ++ clob_body s ++ ascii "\"}}"

-- a blob is `{{`, base64, `}}`
unfoldable pub blob_text : List ℕ → List ℕ
blob_text s = ascii "{{" ++ base64 s ++ ascii "}}"

-- the types in the tape's order; a number past 12 is no type, and what is written for it no text of 01's
unfoldable pub type_name : ℕ → List ℕ
type_name t =
    if (eqb t 0) (ascii "null")
    (if (eqb t 1) (ascii "bool")
    (if (eqb t 2) (ascii "int")
    (if (eqb t 3) (ascii "float")
    (if (eqb t 4) (ascii "decimal")
    (if (eqb t 5) (ascii "timestamp")
    (if (eqb t 6) (ascii "symbol")
    (if (eqb t 7) (ascii "string")
    (if (eqb t 8) (ascii "clob")
    (if (eqb t 9) (ascii "blob")
    (if (eqb t 10) (ascii "list")
    (if (eqb t 11) (ascii "sexp")
    (if (eqb t 12) (ascii "struct") []))))))))))))

-- nulls print `null` or `null.` and the type
unfoldable pub null_text : ℕ → List ℕ
null_text t = if (eqb t 0) (ascii "null") (ascii "null." ++ type_name t)

unfoldable pub bool_text : Bool → List ℕ
bool_text b = if b (ascii "true") (ascii "false")
