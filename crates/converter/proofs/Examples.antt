-- A stored text by computation: an annotation, a name, a symbol and a string with control characters raw. What it means by 01's raw rule, that the strict rule refuses it,
-- and what a call answers and leaves. Assumes nothing.
use Prim.Native.Nat.{ℕ}
use mathlib.Core.Path.{◌≡◌, refl}
use mathlib.Core.List.{List, [], ◌∷◌, ◌++◌}
use mathlib.Core.Option.{none, some}
use lib.ListN.{replicate}
use Rattle.output.specs.Logic.{ascii}
use Rattle.text_rules.specs.Text.{Sym}
use Rattle.text_rules.specs.Escapes.{hex_digit, letter, hex_value, hex}
use Rattle.text_rules.specs.Texts.{starts, strip, same, blank}
use Rattle.text_rules.specs.Words.{word, behind_word, kind_of, is_part, is_start, resembles_version_marker, resembles_symbol_id, version, all_digits, symbol_id, is_identifier}
use Rattle.text_rules.specs.Digits.{is_digit, run, behind_digits, number}
use Rattle.text_rules.specs.Utf8.{char_of, lead_of, is_cont, ok2, ok3, ok4}
use Rattle.tokens.specs.Quoted.{old_raw, strict_raw, raw, character, characters, quote, quoted, string, escape, scalar_escape, letter_escape}
use Rattle.tokens.specs.Token.{symbol, bare_symbol, quoted_symbol}
use Rattle.tape.specs.Answer.{counted, refused}
use Rattle.tape.specs.Tree.{Nodes, Scalar, nil, more, nest, scalar}
use Rattle.tape.specs.declared.Frame.TheVariants.{Struct}
use Rattle.reader.specs.Grammar.{taken, skip, opener, opens, closes, comma, gap, free, within, note, notes, field, name, head, headed, body, sequence, meaning, numeric}
use Rattle.reader.specs.Grammar as grammar
use Rattle.converter.specs.Convert.{replaced, converted}
use Rattle.converter.specs.Outcome.{is_old, has_room, answer, leaves}

-- '␁'::{'␂':'␃',b:"␀␉␇"}
abbrev stored : List ℕ
stored = ascii "'" ++ 1 ∷ ascii "'::{'" ++ 2 ∷ ascii "':'" ++ 3 ∷ ascii "',b:\"" ++ 0 ∷ 9 ∷ 7 ∷ ascii "\"}"

abbrev meant : Nodes
meant = more (none, Sym.text (1 ∷ []) ∷ []) (nest Struct (more (some (Sym.text (2 ∷ [])), []) (scalar (Scalar.symbol (Sym.text (3 ∷ [])))) (more (some (Sym.text (ascii "b")), []) (scalar (Scalar.string (0 ∷ 9 ∷ 7 ∷ []))) nil))) nil

pub converted_example : converted stored ≡ ascii "'\\x01'::{'\\x02':'\\x03',b:\"\\x00" ++ 9 ∷ ascii "\\x07\"}"
unfolding converted replaced old_raw strict_raw hex_digit
converted_example = refl

pub old_example : meaning old_raw stored ≡ some meant
unfolding meaning sequence body head name field note notes free gap comma closes opens opener skip grammar.scalar numeric string symbol bare_symbol quoted_symbol quoted characters quote character escape scalar_escape letter_escape raw old_raw letter hex_value hex char_of lead_of is_cont ok2 ok3 ok4 starts strip same blank word behind_word kind_of is_part is_start is_digit resembles_version_marker resembles_symbol_id version all_digits run behind_digits number symbol_id is_identifier
old_example = refl

pub strict_example : meaning strict_raw stored ≡ none
unfolding meaning sequence body head name field note notes free gap comma closes opens opener skip grammar.scalar numeric string symbol bare_symbol quoted_symbol quoted characters quote character escape scalar_escape letter_escape raw strict_raw letter hex_value hex char_of lead_of is_cont ok2 ok3 ok4 starts strip same blank word behind_word kind_of is_part is_start is_digit resembles_version_marker resembles_symbol_id version all_digits run behind_digits number symbol_id is_identifier
strict_example = refl

-- in just its room, in one byte less, and with a byte to spare; and a text that is outside the old grammar
pub answers : (answer stored 37 ≡ counted 37) × (answer stored 36 ≡ refused 14) × (leaves stored (replicate 36 46) ≡ replicate 36 46) × (leaves stored (replicate 38 46) ≡ converted stored ++ 46 ∷ []) × (answer (1 ∷ []) 0 ≡ refused 13) × (leaves (1 ∷ []) (46 ∷ []) ≡ 46 ∷ [])
unfolding answer leaves is_old has_room converted replaced strict_raw hex_digit meaning sequence body head name field note notes free gap comma closes opens opener skip grammar.scalar numeric string symbol bare_symbol quoted_symbol quoted characters quote character escape scalar_escape letter_escape raw old_raw letter hex_value hex char_of lead_of is_cont ok2 ok3 ok4 starts strip same blank word behind_word kind_of is_part is_start is_digit resembles_version_marker resembles_symbol_id version all_digits run behind_digits number symbol_id is_identifier grammar.words
answers = (refl, refl, refl, refl, refl, refl)
