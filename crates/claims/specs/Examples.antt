-- Document 01's examples: the marked ones (M) in one record, and the bytes of the others that a theorem names; and examples of A9's setting in one record.
-- Assumes nothing: these are definitions.
use Rattle.std.specs.Prelude.{◌≡◌, true, false, List, [], ◌∷◌, ◌++◌, ℕ, ◌≤◌, ℤ, pos, negsuc, length, drop}
use Rattle.std.proofs.Math.Option.{none, some}
use Rattle.output.specs.Logic.{ascii}
use Rattle.text_rules.specs.Text.{Sym, symbol_text}
use Rattle.numbers.specs.Decimal.{decimal_text}
use Rattle.numbers.specs.Timestamp.{offset_text}
use Rattle.tape.specs.Tree.{Node, Nodes, int, symbol, string, scalar, nest, marker, nil, more}
use Rattle.tape.specs.Answer.{Outcome, counted, refused}
use Rattle.tape.specs.declared.Frame.TheVariants.{List as ListF, Struct}
use Rattle.line_reader.specs.Book.{Call}
use Rattle.writer.specs.Text.{stream_text}
use Rattle.writer.specs.Outcome.{streamed, leaves}
use Rattle.tree.specs.Text.{tree_text}

-- an int without name and annotations, and the nodes behind it
abbrev pub int_before : ℤ → Nodes → Nodes
int_before n ns = more (none, []) (scalar (int n)) ns

-- the list of 1 and 2, and its tape
abbrev pub list : Nodes
list = more (none, []) (nest ListF (int_before (pos 1) (int_before (pos 2) nil))) nil

abbrev pub list_tape : List ℕ
list_tape = 0x0A ∷ 0x12 ∷ 0 ∷ 0 ∷ 0 ∷ 2 ∷ 1 ∷ 0 ∷ 0 ∷ 0 ∷ 0 ∷ 0 ∷ 0 ∷ 0 ∷ 2 ∷ 2 ∷ 0 ∷ 0 ∷ 0 ∷ 0 ∷ 0 ∷ 0 ∷ 0 ∷ 0x17 ∷ 0 ∷ 0 ∷ 0 ∷ 1 ∷ 0 ∷ 0 ∷ 0 ∷ []

-- THE MARKED EXAMPLES. The list's text is also what `write_stream` answers and leaves for its tape: in every buffer of 9 bytes or more, the rest
-- kept, and, cut, in one of 8.
pub record Marked : Type 0 where
  pub empty-symbol : symbol_text false [] ≡ ascii "''"
  pub keyword : symbol_text false (ascii "true") ≡ ascii "'true'"
  pub identifier_text : symbol_text false (ascii "$7") ≡ ascii "'$7'"
  pub no_marker : symbol_text false (ascii "$ion_1_0_0") ≡ ascii "$ion_1_0_0"
  pub six_digits : decimal_text false 123456 (pos 0) ≡ ascii "123456."
  pub seven_digits : decimal_text false 1234567 (pos 0) ≡ ascii "1.234567d6"
  pub five-zeros : decimal_text false 116 (negsuc 7) ≡ ascii "0.00000116"
  pub scientific-below : decimal_text false 116 (negsuc 8) ≡ ascii "1.16d-7"
  pub negative-zero : decimal_text true 0 (pos 0) ≡ ascii "-0."
  pub offset_unknown : offset_text (pos 32767) ≡ ascii "-00:00"
  pub offset_five : offset_text (negsuc 4) ≡ ascii "-00:05"
  pub compact_list : stream_text false 0 list ≡ ascii "[1, 2, ] "
  pub list_written : (b : List ℕ) → 9 ≤ length b → (streamed 0 list_tape (length b) ≡ counted 9) × (leaves 0 list_tape b ≡ ascii "[1, 2, ] " ++ drop 9 b)
  pub list_too_long : (b : List ℕ) → length b ≡ 8 → (streamed 0 list_tape (length b) ≡ refused 6) × (leaves 0 list_tape b ≡ ascii "[1, 2, ]")

-- ---- every symbol text quoted

-- one node, without name and annotations
abbrev pub one_node : Node → Nodes
one_node n = more (none, []) n nil

-- a struct of one value, by its name
abbrev pub struct_of : Sym → Node → Nodes
struct_of s n = one_node (nest Struct (more (some s, []) n nil))

-- the symbol value of a text
abbrev pub symbol_node : List ℕ → Node
symbol_node s = scalar (symbol (Sym.text s))

-- EXAMPLES OF A9'S SETTING, which is on.
pub record QuotedExamples : Type 0 where
  -- "every symbol text is quoted": one that stood bare before, and those that were quoted
  pub bare_word : symbol_text true (ascii "vega") ≡ ascii "'vega'"
  pub empty-symbol : symbol_text true [] ≡ ascii "''"
  pub keyword : symbol_text true (ascii "true") ≡ ascii "'true'"
  -- "values, names and annotations"
  pub name-and-value : stream_text true 0 (struct_of (Sym.text (ascii "a")) (symbol_node (ascii "b"))) ≡ ascii "{'a': 'b', } "
  pub annotation_and-value : tree_text true (more (none, Sym.text (ascii "a") ∷ []) (symbol_node (ascii "b")) nil) ≡ ascii "'a'::'b'"
  -- "Identifiers by number keep `$` and digits"
  pub identifier_value : stream_text true 0 (one_node (scalar (symbol (Sym.id 7)))) ≡ ascii "$7 "
  pub identifier_name : stream_text true 0 (struct_of (Sym.id 7) (symbol_node (ascii "b"))) ≡ ascii "{$7: 'b', } "
  pub identifier_annotation : tree_text true (more (none, Sym.id 0 ∷ []) (symbol_node (ascii "b")) nil) ≡ ascii "$0::'b'"
  -- what is no symbol text stays: a marker, a string
  pub marker_line : stream_text true 1 (one_node marker) ≡ ascii "$ion_1_0\n"
  pub string-value : stream_text true 0 (one_node (scalar (string (ascii "vega")))) ≡ ascii "\"vega\" "

-- ---- damaged texts

-- the tapes of one int below 256, of the symbol x and of the symbol x3
abbrev pub int_tape : ℕ → List ℕ
int_tape k = 2 ∷ k ∷ 0 ∷ 0 ∷ 0 ∷ 0 ∷ 0 ∷ 0 ∷ 0 ∷ 9 ∷ 0 ∷ 0 ∷ 0 ∷ 1 ∷ 0 ∷ 0 ∷ 0 ∷ []

abbrev pub x_tape : List ℕ
x_tape = 6 ∷ 1 ∷ 0 ∷ 0 ∷ 0 ∷ 120 ∷ 6 ∷ 0 ∷ 0 ∷ 0 ∷ 1 ∷ 0 ∷ 0 ∷ 0 ∷ []

abbrev pub x3_tape : List ℕ
x3_tape = 6 ∷ 2 ∷ 0 ∷ 0 ∷ 0 ∷ 120 ∷ 51 ∷ 7 ∷ 0 ∷ 0 ∷ 0 ∷ 1 ∷ 0 ∷ 0 ∷ 0 ∷ []

-- a call, by its answer, its offset and its buffer
abbrev pub call : Outcome → ℕ → List ℕ → Call
call a at buf = record { answer = a; at = at; buf = buf }

-- a tape at the buffer's start, the rest kept
abbrev pub tape_over : List ℕ → List ℕ → List ℕ
tape_over t buf = t ++ drop (length t) buf
