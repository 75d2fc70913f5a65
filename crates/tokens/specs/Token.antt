-- Symbols, nulls and bools, read from the start of a text: what was read, and the text behind it.
-- Assumes nothing: these are definitions.
use Rattle.std.specs.Prelude.{ℕ, Bool, true, false, List, drop}
use Rattle.std.proofs.Math.Option.{Option, none, some}
use Rattle.output.specs.Logic.{if, then, byte, ascii}
use Rattle.text_rules.specs.Texts.{starts, same}
use Rattle.text_rules.specs.Words.{word, behind_word, kind_of}
use Rattle.text_rules.specs.Text.{Sym}
use Rattle.tokens.specs.Quoted.{quoted}
use Rattle.text_rules.specs.declared.words.Kind.{Kind}
use Rattle.text_rules.specs.declared.words.Kind.TheVariants.{Null, True, False, Nan, Marker, Number, Text, Refused}

-- what a bare word is as a symbol: `$` and a number, or symbol text; every other kind is no symbol
abbrev pub word_symbol : Kind → List ℕ → Option Sym
word_symbol Text w = some (Sym.text w)
word_symbol (Number n) w = some (Sym.id n)
word_symbol Null w = none
word_symbol True w = none
word_symbol False w = none
word_symbol Nan w = none
word_symbol Marker w = none
word_symbol Refused w = none

unfoldable pub bare_symbol : List ℕ → Option (Sym × List ℕ)
bare_symbol t = then (word_symbol (kind_of (word t)) (word t)) (λ s. some (s, behind_word t))

-- by what a raw character may be
module _ (is_raw : ℕ → Bool) where
  unfoldable pub quoted_symbol : List ℕ → Option (Sym × List ℕ)
  quoted_symbol t = then (quoted is_raw (byte "'") t) (λ r. some (Sym.text r.0, r.1))

  -- a symbol. `'''` starting a token is refused because of what would follow: the empty symbol is read, and a quote mark may not stand behind it
  unfoldable pub symbol : List ℕ → Option (Sym × List ℕ)
  symbol t = if (starts (byte "'") t) (quoted_symbol (drop 1 t)) (bare_symbol t)

-- ---- nulls

-- the type that a name names behind `null.`: type 0 prints `null` alone, so `null` is none here
unfoldable pub type_of : List ℕ → Option ℕ
type_of w =
    if (same (ascii "bool") w) (some 1)
    (if (same (ascii "int") w) (some 2)
    (if (same (ascii "float") w) (some 3)
    (if (same (ascii "decimal") w) (some 4)
    (if (same (ascii "timestamp") w) (some 5)
    (if (same (ascii "symbol") w) (some 6)
    (if (same (ascii "string") w) (some 7)
    (if (same (ascii "clob") w) (some 8)
    (if (same (ascii "blob") w) (some 9)
    (if (same (ascii "list") w) (some 10)
    (if (same (ascii "sexp") w) (some 11)
    (if (same (ascii "struct") w) (some 12) none)))))))))))

-- behind the word `null`: a point and a type, or nothing more
unfoldable pub null_behind : List ℕ → Option (ℕ × List ℕ)
null_behind t = if (starts (byte ".") t) (then (type_of (word (drop 1 t))) (λ k. some (k, behind_word (drop 1 t)))) (some (0, t))

-- a null of some type
unfoldable pub null : List ℕ → Option (ℕ × List ℕ)
null t = if (same (ascii "null") (word t)) (null_behind (behind_word t)) none

-- ---- bools

abbrev pub bool_of : Kind → Option Bool
bool_of True = some true
bool_of False = some false
bool_of Null = none
bool_of Nan = none
bool_of Marker = none
bool_of (Number n) = none
bool_of Text = none
bool_of Refused = none

unfoldable pub bool : List ℕ → Option (Bool × List ℕ)
bool t = then (bool_of (kind_of (word t))) (λ b. some (b, behind_word t))
