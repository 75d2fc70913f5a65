-- Document 01's marked examples (M), under one theorem: `marked`; and examples of A9's setting: `quoted_examples`. Assumes nothing.
use mathlib.Core.Path.{◌≡◌, refl, ap, subst, ◌∙◌}
use mathlib.Core.Bool.{false}
use mathlib.Core.List.{List, []}
use mathlib.Core.Option.{none}
use Prim.Native.Nat.{ℕ}
use lib.IntN.{pos}
use Rattle.output.specs.Logic.{ascii}
use Rattle.text_rules.specs.Texts.{starts, strip, same}
use Rattle.text_rules.specs.Digits.{pad, count, digits, is_digit, run, behind_digits}
use Rattle.text_rules.specs.Words.{is_start, is_part, behind_word, all_digits, is_keyword, resembles_symbol_id, version, resembles_version_marker, is_identifier}
use Rattle.text_rules.specs.Escapes.{text_body, text_escape, has_letter, has_hex, letter_of}
use Rattle.text_rules.specs.Text.{symbol_text, symbol_id_text, string_text}
use Rattle.numbers.specs.Decimal.{int_text, pointed, scientific, above, below, form, sign, decimal_text}
use Rattle.numbers.specs.Timestamp.{hour_and_minute, offset_text}
use native.Mathlib.Omega.{arith}
use Rattle.tape.specs.Tree.{nil, size, encode_head, encode_name, encode_notes, encode_scalar, encode, encodes, tape}
use Rattle.tape.specs.Bytes.{bits}
use Rattle.output.specs.Wrote.{le_bytes}
use lib.ListN.{length, take}
use Rattle.tape.specs.Refusal.{noted}
use Rattle.tape.specs.Fine.{FineHead, Fine, Fines}
use Rattle.tape.specs.declared.Frame.TheVariants.{Top, List as ListF}
use Rattle.writer.specs.Text.{sym_text, scalar_text, name_text, notes_text, opening, closing, separator, broken, deeper, text, texts, stream_text}
use Rattle.writer.specs.Outcome.{streamed, leaves}
use Rattle.tree.specs.Text.{lead, element, elements, tree_text}
use Rattle.claims.specs.Writing.{WritesText}
use Rattle.claims.specs.Examples.{int_before, list, list_tape, Marked, QuotedExamples}
use Rattle.claims.proofs.TapeBack.{tree_written, writes_whole, writes_cut}

list-head : FineHead ListF (none, [])
list-head = record { name = tt; notes = tt; few = omega arith }

pub list-tape : tape list ≡ list_tape
unfolding tape encode encode_head encode_name encode_notes encode_scalar size le_bytes bits
list-tape = refl

pub list_fine : Fines 64 Top list
unfolding Fine encode encode_head encode_name encode_notes encode_scalar le_bytes bits
list_fine =
    let long : length (encodes (int_before (pos 1) (int_before (pos 2) nil))) ≡ 18 = refl in
    (record { name = tt; notes = tt; few = omega arith }, (tt, omega arith, (list-head, record { sfits = omega arith }, (list-head, record { sfits = omega arith }, tt))), tt)

-- what the writer does with that tape, by the text of its nodes
list_writes : WritesText (stream_text false 0 list) (streamed 0 list_tape) (leaves 0 list_tape)
unfolding noted
list_writes = subst (λ (t : List ℕ). WritesText (stream_text false 0 list) (streamed 0 t) (leaves 0 t)) list-tape (tree_written false 0 list (omega arith) list_fine refl (rw list-tape (omega arith)))

pub marked : Marked
unfolding symbol_text text_body text_escape has_letter has_hex letter_of is_keyword resembles_symbol_id resembles_version_marker version is_identifier all_digits is_start is_part behind_word is_digit run behind_digits starts strip same pad count digits int_text pointed scientific above below form sign decimal_text hour_and_minute offset_text scalar_text name_text opening closing separator broken deeper text texts stream_text
marked = record {
  empty-symbol = refl;
  keyword = refl;
  identifier_text = refl;
  no_marker = refl;
  six_digits = refl;
  seven_digits = refl;
  five-zeros = refl;
  scientific-below = refl;
  negative-zero = refl;
  offset_unknown = refl;
  offset_five = refl;
  compact_list = refl;
  list_written = λ b h. writes_whole list_writes b h;
  list_too_long = λ b e. let w = writes_cut list_writes b (omega arith) in (w.0, w.1 ∙ ap (λ (n : ℕ). take n (ascii "[1, 2, ] ")) e);
}

pub quoted_examples : QuotedExamples
unfolding symbol_text symbol_id_text string_text text_body text_escape has_letter has_hex letter_of pad count digits sym_text scalar_text name_text notes_text opening closing separator broken deeper text texts stream_text lead element elements tree_text
quoted_examples = record {
  bare_word = refl;
  empty-symbol = refl;
  keyword = refl;
  name-and-value = refl;
  annotation_and-value = refl;
  identifier_value = refl;
  identifier_name = refl;
  identifier_annotation = refl;
  marker_line = refl;
  string-value = refl;
}
