-- The streaming text of nodes. The layout y is 0 Compact, 1 Lines or 2 Pretty; any other is refused by 7 before its text is asked for.
-- Assumes nothing: these are definitions.
use Rattle.std.specs.Prelude.{ℕ, ◌+◌, List, [], ◌∷◌, ◌++◌, Bool, true, not, ◌&&◌, eqb, replicate}
use Rattle.std.proofs.Math.Option.{Option, none, some}
use Rattle.output.specs.Logic.{if, byte, ascii}
use Rattle.text_rules.specs.Text.{Sym}
use Rattle.text_rules.specs.Text.{symbol_text, symbol_id_text, string_text, clob_text, blob_text, null_text, bool_text}
use Rattle.numbers.specs.Decimal.{int_text, decimal_text}
use Rattle.numbers.specs.Timestamp.{timestamp_text}
use Rattle.floats.specs.Float.{float_text}
use Rattle.tape.specs.Tree.{Scalar, Node, Nodes, null, bool, int, float, decimal, timestamp, symbol, string, clob, blob, scalar, nest, marker, nil, more}
use Rattle.tape.specs.declared.Frame.{Frame}
use Rattle.tape.specs.declared.Frame.TheVariants.{Top, List as ListF, Sexp, Struct}

-- ---- values: the same text in every layout. `quoted`: every symbol text is quoted, as value, name and annotation

module _ (quoted : Bool) where
  unfoldable pub sym_text : Sym → List ℕ
  sym_text (Sym.text s) = symbol_text quoted s
  sym_text (Sym.id n) = symbol_id_text n

  unfoldable pub scalar_text : Scalar → List ℕ
  scalar_text (null t) = null_text t
  scalar_text (bool b) = bool_text b
  scalar_text (int n) = int_text n
  scalar_text (float x) = float_text x
  scalar_text (decimal neg m e) = decimal_text neg m e
  scalar_text (timestamp x) = timestamp_text x
  scalar_text (symbol s) = sym_text s
  scalar_text (string s) = string_text s
  scalar_text (clob s) = clob_text s
  scalar_text (blob s) = blob_text s

  -- field names end in `: `
  unfoldable pub name_text : Option Sym → List ℕ
  name_text none = []
  name_text (some s) = sym_text s ++ ascii ": "

  -- annotations `a::`, in the tree text alone
  unfoldable pub notes_text : List Sym → List ℕ
  notes_text [] = []
  notes_text (s ∷ ss) = sym_text s ++ ascii "::" ++ notes_text ss

unfoldable pub opening : Frame → List ℕ
opening Top = []
opening ListF = ascii "["
opening Sexp = ascii "("
opening Struct = ascii "{"

unfoldable pub closing : Frame → List ℕ
closing Top = []
closing ListF = ascii "]"
closing Sexp = ascii ")"
closing Struct = ascii "}"

-- ---- layouts

-- A separator follows every value, the last included: `, ` in lists and structs, blank in sexps, and at top level a blank (0) or LF (1).
-- Pretty uses `,` LF, LF and LF.
unfoldable pub separator : ℕ → Frame → List ℕ
separator y Top = if (eqb y 0) (ascii " ") (ascii "\n")
separator y ListF = if (eqb y 2) (ascii ",\n") (ascii ", ")
separator y Sexp = if (eqb y 2) (ascii "\n") (ascii " ")
separator y Struct = if (eqb y 2) (ascii ",\n") (ascii ", ")

-- Pretty puts LF after each opening bracket
unfoldable pub broken : ℕ → List ℕ
broken y = if (eqb y 2) (ascii "\n") []

-- Pretty indents two blanks a level; a child is one level below its container. w is how many blanks stand before the container
unfoldable pub deeper : ℕ → ℕ → ℕ
deeper y w = if (eqb y 2) (w + 2) 0

abbrev pub blanks : ℕ → List ℕ
blanks w = replicate w (byte " ")

-- no LF stands in a text
unfoldable pub unbroken : List ℕ → Bool
unbroken [] = true
unbroken (c ∷ s) = not (eqb c (byte "\n")) && unbroken s

-- the lines of a text, with n further blanks before each. starts: a line starts with the next byte
unfoldable pub indented_from : Bool → ℕ → List ℕ → List ℕ
indented_from starts n [] = []
indented_from starts n (c ∷ s) = if starts (blanks n) [] ++ (c ∷ indented_from (eqb c (byte "\n")) n s)

-- the same of a whole text, which starts with a line
unfoldable pub indented : ℕ → List ℕ → List ℕ
indented n s = indented_from true n s

module _ (quoted : Bool) where
  -- The text of a node before which w blanks stand: a struct value has no indentation before it, its name has, so the blanks are the child's.
  -- Every closing bracket is indented at its container's level. Annotations have no place here: they are refused by 5.
  unfoldable mutual
    pub text : ℕ → ℕ → Node → List ℕ
    text y w (scalar s) = scalar_text quoted s
    text y w (nest k ns) = opening k ++ broken y ++ texts y k (deeper y w) ns ++ blanks w ++ closing k
    text y w marker = ascii "$ion_1_0"

    pub texts : ℕ → Frame → ℕ → Nodes → List ℕ
    texts y k w nil = []
    texts y k w (more h n ns) = (blanks w ++ name_text quoted h.0 ++ text y w n ++ separator y k) ++ texts y k w ns

  -- the streaming text of a tape's nodes
  unfoldable pub stream_text : ℕ → Nodes → List ℕ
  stream_text y ns = texts y Top 0 ns
