-- What the contracts of the word readers say, and of the tests by which symbol text is written. Assumes nothing: these are definitions.
use Rattle.std.specs.Prelude.{ℕ, ◌+◌, ◌-◌, ◌≤◌, ◌≡◌, Bool, not, ◌&&◌, ◌||◌, List, leb, eqb, length, take, drop}
use Rattle.std.proofs.Math.Option.{none, some}
use Rattle.output.specs.Logic.{if, byte}
use Rattle.text_rules.specs.Texts.{empty, strip}
use Rattle.text_rules.specs.Digits.{behind_digits}
use Rattle.text_rules.specs.Words.{is_start, is_keyword, resembles_symbol_id, resembles_version_marker, is_identifier, word, behind_word, kind_of}
use Rattle.text_rules.specs.declared.words.Word.{Word}
use Rattle.text_rules.specs.declared.words.Kind.{Kind}
use Rattle.text_rules.specs.declared.words.Kind.TheVariants.{Number, Refused}

-- the identifier bytes from a place up to r
pub record Spanned (text : List ℕ) (at r : ℕ) : Type 0 where
  pub ahead : at ≤ r
  pub inside : r ≤ length text
  pub rest : drop r text ≡ behind_word (drop at text)
  pub bytes : take (r - at) (drop at text) ≡ word (drop at text)

-- the digits from a place up to r are passed
pub record Passed (text : List ℕ) (at r : ℕ) : Type 0 where
  pub ahead : at ≤ r
  pub inside : r ≤ length text
  pub is : drop r text ≡ behind_digits (drop at text)

-- whether a word stands at a place, and then the text behind it
pub record WordStands (text : List ℕ) (at : ℕ) (w : List ℕ) (r : Bool) : Type 0 where
  pub is : strip w (drop at text) ≡ if r (some (drop (at + length w) text)) none
  pub inside : if r (at + length w) at ≤ length text

-- the number of a symbol identifier, if it is below 2 to the 32nd
abbrev pub bounded : ℕ → Kind
bounded n = if (leb n 4_294_967_295) (Number n) Refused

-- the word of identifier bytes at a place, what it is and where it ends
pub record WordAt (text : List ℕ) (at : ℕ) (r : Word) : Type 0 where
  pub ahead : at ≤ r.end
  pub inside : r.end ≤ length text
  pub rest : drop r.end text ≡ behind_word (drop at text)
  pub bytes : take (r.end - at) (drop at text) ≡ word (drop at text)
  pub kind : r.kind ≡ kind_of (word (drop at text))

-- a byte that a quoted-only spelling starts with: `$`, or a keyword's first letter
unfoldable pub special : ℕ → Bool
special c = eqb c (byte "$") || eqb c (byte "t") || eqb c (byte "f") || eqb c (byte "n")

-- symbol text that is written bare
unfoldable pub is_bare : List ℕ → Bool
is_bare s = is_identifier s && (not (is_keyword s) && (not (resembles_symbol_id s) && not (resembles_version_marker s)))

-- every byte is one of an identifier
unfoldable pub all_part : List ℕ → Bool
all_part s = empty (behind_word s)

-- a letter or `_`: the first byte of most names
unfoldable pub is_letter_or_underscore : ℕ → Bool
is_letter_or_underscore c = is_start c && not (eqb c (byte "$"))
