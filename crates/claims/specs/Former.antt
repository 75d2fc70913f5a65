-- The texts as they were before request A5, which are the Rust's: 01's escape rule, and the texts of symbols, strings and nodes by it; and how A5 amends
-- them. Assumes nothing: these are definitions.
use Rattle.std.specs.Prelude.{ℕ, Bool, true, false, not, ◌&&◌, ◌||◌, List, [], ◌∷◌, ◌++◌, eqb}
use Rattle.std.proofs.Math.Option.{Option, none, some}
use Rattle.output.specs.Logic.{if, byte, ascii}
use Rattle.text_rules.specs.Escapes.{letter_of, has_letter, hex_escape, has_hex}
use Rattle.text_rules.specs.Words.{is_keyword, resembles_symbol_id, resembles_version_marker, is_identifier}
use Rattle.text_rules.specs.Text.{Sym, symbol_id_text, clob_text, blob_text, null_text, bool_text}
use Rattle.numbers.specs.Decimal.{int_text, decimal_text}
use Rattle.numbers.specs.Timestamp.{timestamp_text}
use Rattle.floats.specs.Float.{float_text}
use Rattle.tape.specs.Tree.{Scalar, Node, Nodes, null, bool, int, float, decimal, timestamp, symbol, string, clob, blob, scalar, nest, marker, nil, more}
use Rattle.tape.specs.declared.Frame.{Frame}
use Rattle.tape.specs.declared.Frame.TheVariants.{Top}
use Rattle.writer.specs.Text.{opening, closing, separator, broken, deeper, blanks}
use Rattle.tree.specs.Text.{lead}

-- 01: quoted text and strings escape NUL, 7 to 13, backslash and both quote marks; other characters go raw
unfoldable pub former_escape : ℕ → List ℕ
former_escape c = if (has_letter c || eqb c (byte "'")) (byte "\\" ∷ letter_of c ∷ []) (c ∷ [])

unfoldable pub former_body : List ℕ → List ℕ
former_body [] = []
former_body (c ∷ s) = former_escape c ++ former_body s

-- ---- the texts, otherwise as they are

abbrev pub former_marked : ℕ → List ℕ → List ℕ
former_marked q s = q ∷ (former_body s ++ (q ∷ []))

unfoldable pub former_symbol : List ℕ → List ℕ
former_symbol s =
    if (is_keyword s || resembles_symbol_id s || resembles_version_marker s) (former_marked (byte "'") s)
    (if (is_identifier s) s (former_marked (byte "'") s))

unfoldable pub former_string : List ℕ → List ℕ
former_string s = former_marked (byte "\"") s

unfoldable pub former_sym : Sym → List ℕ
former_sym (Sym.text s) = former_symbol s
former_sym (Sym.id n) = symbol_id_text n

unfoldable pub former_scalar : Scalar → List ℕ
former_scalar (null t) = null_text t
former_scalar (bool b) = bool_text b
former_scalar (int n) = int_text n
former_scalar (float x) = float_text x
former_scalar (decimal neg m e) = decimal_text neg m e
former_scalar (timestamp x) = timestamp_text x
former_scalar (symbol s) = former_sym s
former_scalar (string s) = former_string s
former_scalar (clob s) = clob_text s
former_scalar (blob s) = blob_text s

unfoldable pub former_name : Option Sym → List ℕ
former_name none = []
former_name (some s) = former_sym s ++ ascii ": "

unfoldable pub former_notes : List Sym → List ℕ
former_notes [] = []
former_notes (s ∷ ss) = former_sym s ++ ascii "::" ++ former_notes ss

unfoldable mutual
  pub former_text : ℕ → ℕ → Node → List ℕ
  former_text y w (scalar s) = former_scalar s
  former_text y w (nest k ns) = opening k ++ broken y ++ former_texts y k (deeper y w) ns ++ blanks w ++ closing k
  former_text y w marker = ascii "$ion_1_0"

  pub former_texts : ℕ → Frame → ℕ → Nodes → List ℕ
  former_texts y k w nil = []
  former_texts y k w (more h n ns) = (blanks w ++ former_name h.0 ++ former_text y w n ++ separator y k) ++ former_texts y k w ns

-- the streaming text of a tape's nodes in the layout y
unfoldable pub former_stream : ℕ → Nodes → List ℕ
former_stream y ns = former_texts y Top 0 ns

unfoldable mutual
  pub former_element : Node → List ℕ
  former_element (scalar s) = former_scalar s
  former_element (nest k ns) = opening k ++ former_elements false k ns ++ closing k
  former_element marker = ascii "$ion_1_0"

  pub former_elements : Bool → Frame → Nodes → List ℕ
  former_elements b k nil = []
  former_elements b k (more h n ns) = (lead b k ++ former_name h.0 ++ former_notes h.1 ++ former_element n) ++ former_elements true k ns

-- the tree text
unfoldable pub former_tree : Nodes → List ℕ
former_tree ns = former_elements false Top ns

-- ---- what A5 changes

-- none of U+0001 to U+0006 and U+000E to U+001F stands in a text
unfoldable pub free_of_hex : List ℕ → Bool
free_of_hex [] = true
free_of_hex (c ∷ s) = not (has_hex c) && free_of_hex s

-- "print U+0001 to U+0006 and U+000E to U+001F … as `\x` with two lower-case hex digits"
abbrev pub amended_byte : ℕ → List ℕ
amended_byte c = if (has_hex c) (hex_escape c) (c ∷ [])

-- each of them replaced
unfoldable pub amended : List ℕ → List ℕ
amended [] = []
amended (c ∷ s) = amended_byte c ++ amended s
