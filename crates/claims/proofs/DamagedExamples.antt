-- Document 01's example of a damaged text, 1 LF 2 LF 3 LF with bytes 2 and 3 replaced by `x`, and with byte 2 alone: every call's answer, offset
-- and whole buffer, by `demand-3-calls`. Assumes nothing.
use Prim.Native.Nat.{ℕ, ◌≤◌, ◌<◌, ◌^◌}
use mathlib.Core.Path.{◌≡◌, refl, ap, sym, ◌∙◌}
use mathlib.Core.Bool.{Bool, true, false}
use mathlib.Core.List.{List, [], ◌∷◌, ◌++◌}
use mathlib.Core.Option.{some, none}
use native.Mathlib.Omega.{arith}
use lib.Dec.{ltb}
use lib.IntN.{pos}
use lib.ListN.{length}
use borrow.Author.Tests.{ltb-true}
use Rattle.output.specs.Logic.{if, ascii}
use Rattle.output.specs.Wrote.{le_bytes}
use Rattle.text_rules.specs.Digits.{pad, count, digits, is_digit, run, behind_digits}
use Rattle.text_rules.specs.Texts.{starts, strip, same}
use Rattle.text_rules.specs.Words.{is_start, is_part, behind_word, all_digits, is_keyword, resembles_symbol_id, version, resembles_version_marker, is_identifier}
use Rattle.text_rules.specs.Utf8.{lead_of, char_of, after, valid}
use Rattle.text_rules.specs.Text.{symbol_text}
use Rattle.numbers.specs.Decimal.{int_text}
use Rattle.tape.specs.Bytes.{bits}
use Rattle.tape.specs.Tree.{Node, Nodes, int, scalar, nil, more, size, sized, encode_sym, encode_head, encode_name, encode_notes, encode_scalar, encode, tape}
use Rattle.tape.specs.Tape.{nodes_of}
use Rattle.tape.specs.Refusal.{noted}
use Rattle.tape.specs.Fine.{Bytes, FineText, FineHead, Fine, Fines}
use Rattle.tape.specs.Answer.{counted, ended}
use Rattle.tape.specs.declared.Frame.TheVariants.{Top}
use Rattle.line_reader.specs.Cut.{grow, lines_of}
use Rattle.line_reader.specs.Book.{success, end_mark, line_tape, room, by_book, play}
use Rattle.line_reader.specs.Damage.{Written, damaged, three_lines}
use Rattle.line_reader.specs.Calls.{calls}
use Rattle.writer.specs.Outcome.{refusal}
use Rattle.writer.specs.Text.{sym_text, scalar_text, name_text, separator, text, texts, stream_text}
use Rattle.text_rules.proofs.DigitLaws.{never}
use Rattle.tape.proofs.Accepted.{tape_accepted, tape_nodes}
use Rattle.line_reader.proofs.DamagedLines.{two_bytes, one_byte}
use Rattle.claims.specs.Demand3.{written_as}
use Rattle.claims.specs.Examples.{symbol_node, int_tape, x_tape, x3_tape, call, tape_over}
use Rattle.claims.proofs.TokensRead.{bytes-none, bytes_more}
use Rattle.claims.proofs.Demand3.{line_reads, tape-fits, demand-3-calls}

-- ---- bytes, by looking at each

abbrev all_bytes : List ℕ → Bool
all_bytes [] = true
all_bytes (b ∷ l) = if (ltb b 256) (all_bytes l) false

bytes-told : (l : List ℕ) → all_bytes l ≡ true → Bytes l
bytes-told [] e = bytes-none
bytes-told (b ∷ l) e = go (bytes-told l) (ltb b 256) refl e
  where
    go : (all_bytes l ≡ true → Bytes l) → (q : Bool) → ltb b 256 ≡ q → if q (all_bytes l) false ≡ true → Bytes (b ∷ l)
    go ih true h e = bytes_more b l (ltb-true b 256 h) (ih e)
    go ih false h e = never (sym e)

-- ---- the tape of 1, 2 and 3, and its text

abbrev value : Node → Nodes → Nodes
value n ns = more (none, []) n ns

abbrev number : ℕ → Node
number n = scalar (int (pos n))

abbrev three : Nodes
three = value (number 1) (value (number 2) (value (number 3) nil))

abbrev three_tape : List ℕ
three_tape =
    2 ∷ 1 ∷ 0 ∷ 0 ∷ 0 ∷ 0 ∷ 0 ∷ 0 ∷ 0 ∷ 2 ∷ 2 ∷ 0 ∷ 0 ∷ 0 ∷ 0 ∷ 0 ∷ 0 ∷ 0 ∷ 2 ∷ 3 ∷ 0 ∷ 0 ∷ 0 ∷ 0 ∷ 0 ∷ 0 ∷ 0 ∷ 27 ∷ 0 ∷ 0 ∷ 0 ∷ 3 ∷ 0 ∷ 0 ∷ 0 ∷ []

tape-is : tape three ≡ three_tape
unfolding tape encode encode_head encode_name encode_notes encode_scalar size le_bytes bits
tape-is = refl

head_fine : FineHead Top (none, [])
head_fine = record { name = tt; notes = tt; few = omega arith }

three_fine : Fines 64 Top three
unfolding Fine
three_fine = (head_fine, record { sfits = omega arith }, (head_fine, record { sfits = omega arith }, (head_fine, record { sfits = omega arith }, tt)))

nodes_are : nodes_of three_tape ≡ three
nodes_are = ap nodes_of (sym tape-is) ∙ tape_nodes three three_fine

let_through : refusal 1 three_tape ≡ 0
unfolding refusal noted
let_through = rw (nodes_are, ← tape-is, tape_accepted three three_fine (rw tape-is (omega arith)))

text_is : stream_text false 1 (nodes_of three_tape) ≡ ascii "1\n2\n3\n"
unfolding stream_text text texts name_text scalar_text int_text digits count pad separator
text_is = rw nodes_are

abbrev values : List Written
values = written_as (lines_of (ascii "1\n2\n3\n")) three

-- demand 3 of this text
three-damaged : (head run new tail buf : List ℕ) (n : ℕ) → ascii "1\n2\n3\n" ≡ head ++ run ++ tail → 35 ≤ length buf
    → calls n (head ++ new ++ tail) 0 buf ≡ play n (damaged values head run new tail) 0 buf
three-damaged head run new tail buf n e l =
    rw (e, ← nodes_are) (demand-3-calls false three_tape head run new tail buf n (bytes-told three_tape refl) let_through (text_is ∙ e) l)

-- ---- symbols between

-- a symbol's line is read to its tape, with room
symbol_read : (s l t : List ℕ) (at : ℕ) (buf : List ℕ) → FineText s → stream_text false 1 (value (symbol_node s) nil) ≡ l → tape (value (symbol_node s) nil) ≡ t → length t ≤ length buf → length t ≤ 1048576
    → by_book l at buf ≡ success l t at buf
unfolding by_book room Fine noted
symbol_read s l t at buf f e e' h m =
    let r : line_tape l ≡ some t = rw (← e, ← e') (line_reads false (none, []) (symbol_node s) (head_fine, f, tt) refl) in
    rw (r, tape-fits t (length buf) h m)

text_fine : (s : List ℕ) → all_bytes s ≡ true → length s < 2 ^ 32 → valid s ≡ true → FineText s
text_fine s b h v = record { plain = record { bytes = bytes-told s b; short = h }; utf8 = v }

symbols_read : (at : ℕ) (buf : List ℕ) → 15 ≤ length buf
    → (by_book (ascii "x\n") at buf ≡ success (ascii "x\n") x_tape at buf) × (by_book (ascii "x3\n") at buf ≡ success (ascii "x3\n") x3_tape at buf)
unfolding valid after char_of lead_of stream_text texts text name_text separator scalar_text sym_text symbol_text is_keyword resembles_symbol_id resembles_version_marker version is_identifier all_digits is_start is_part behind_word is_digit run behind_digits starts strip same tape encode encode_head encode_name encode_notes encode_scalar encode_sym sized size le_bytes
symbols_read at buf h = (
  symbol_read (ascii "x") (ascii "x\n") x_tape at buf (text_fine (ascii "x") refl (omega arith) refl) refl refl (omega arith) (omega arith),
  symbol_read (ascii "x3") (ascii "x3\n") x3_tape at buf (text_fine (ascii "x3") refl (omega arith) refl) refl refl h (omega arith),
)

-- ---- the calls

-- the values are these three lines, each with its own tape
values_are : values ≡ three_lines (int_tape 1) (int_tape 2) (int_tape 3)
unfolding written_as lines_of grow tape encode encode_head encode_name encode_notes encode_scalar size le_bytes bits
values_are = refl

-- Bytes 2 and 3 replaced by one `x`: int 1, symbol x3, then end marks.
pub x_for_two : (buf : List ℕ) → 35 ≤ length buf → calls 4 (ascii "1\nx3\n") 0 buf ≡
    call (counted 17) 2 (tape_over (int_tape 1) buf)
    ∷ call (counted 15) 5 (tape_over x3_tape (tape_over (int_tape 1) buf))
    ∷ call ended 5 (tape_over x3_tape (tape_over (int_tape 1) buf))
    ∷ call ended 5 (tape_over x3_tape (tape_over (int_tape 1) buf)) ∷ []
unfolding play success end_mark
x_for_two buf l =
    three-damaged (ascii "1\n") (ascii "2\n") (ascii "x") (ascii "3\n") buf 4 refl l
    ∙ rw (values_are, two_bytes (int_tape 1) (int_tape 2) (int_tape 3), (symbols_read 2 (tape_over (int_tape 1) buf) (omega arith)).1)

-- Byte 2 alone replaced: 1, x, 3.
pub x_for_one : (buf : List ℕ) → 35 ≤ length buf → calls 4 (ascii "1\nx\n3\n") 0 buf ≡
    call (counted 17) 2 (tape_over (int_tape 1) buf)
    ∷ call (counted 14) 4 (tape_over x_tape (tape_over (int_tape 1) buf))
    ∷ call (counted 17) 6 (tape_over (int_tape 3) (tape_over x_tape (tape_over (int_tape 1) buf)))
    ∷ call ended 6 (tape_over (int_tape 3) (tape_over x_tape (tape_over (int_tape 1) buf))) ∷ []
unfolding play success end_mark
x_for_one buf l =
    three-damaged (ascii "1\n") (ascii "2") (ascii "x") (ascii "\n3\n") buf 4 refl l
    ∙ rw (values_are, one_byte (int_tape 1) (int_tape 2) (int_tape 3), (symbols_read 2 (tape_over (int_tape 1) buf) (omega arith)).0)
