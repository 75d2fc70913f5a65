-- How the length of a text is summed up: its contents, which are the same in every layout, and what the layouts add. Assumes nothing: these are
-- definitions.
use Rattle.std.specs.Prelude.{ℕ, ◌+◌, List, [], ◌∷◌, Bool, length}
use Rattle.output.specs.Logic.{if, ascii}
use Rattle.tape.specs.Tree.{Head, Node, Nodes, scalar, nest, marker, nil, more}
use Rattle.tape.specs.Tape.{reading, sym_of, scalar_of}
use Rattle.tape.specs.declared.Frame.{Frame}
use Rattle.writer.specs.Text.{sym_text, scalar_text, name_text, notes_text, opening, closing, separator, broken, deeper}
use Rattle.writer.specs.Steps.{is_nil}

-- ---- contents: scalars, markers, brackets, names with their `: `, annotations with their `::`

module _ (quoted : Bool) where
  abbrev pub front_length : Head → ℕ
  front_length h = length (name_text quoted h.0) + length (notes_text quoted h.1)

  unfoldable mutual
    pub contents_of : Node → ℕ
    contents_of (scalar s) = length (scalar_text quoted s)
    contents_of (nest k ns) = length (opening k) + contents ns + length (closing k)
    contents_of marker = length (ascii "$ion_1_0")

    pub contents : Nodes → ℕ
    contents nil = 0
    contents (more h n ns) = front_length h + contents_of n + contents ns

-- ---- separators: one behind each child, as long in one layout as in the others

abbrev pub separator_length : Frame → ℕ
separator_length k = length (separator 0 k)

unfoldable mutual
  pub separators_of : Node → ℕ
  separators_of (scalar s) = 0
  separators_of (nest k ns) = separators k ns
  separators_of marker = 0

  pub separators : Frame → Nodes → ℕ
  separators k nil = 0
  separators k (more h n ns) = separator_length k + separators_of n + separators k ns

-- those behind the last child of a body, which the tree text does without
unfoldable mutual
  pub lasts_of : Node → ℕ
  lasts_of (scalar s) = 0
  lasts_of (nest k ns) = lasts k ns
  lasts_of marker = 0

  pub lasts : Frame → Nodes → ℕ
  lasts k nil = 0
  lasts k (more h n ns) = (if (is_nil ns) (separator_length k) 0) + lasts_of n + lasts k ns

-- ---- what Pretty adds: w blanks before each child and before its closing bracket, and LF behind an opening bracket

unfoldable mutual
  pub indents_of : ℕ → Node → ℕ
  indents_of w (scalar s) = 0
  indents_of w (nest k ns) = length (broken 2) + indents (deeper 2 w) ns + w
  indents_of w marker = 0

  pub indents : ℕ → Nodes → ℕ
  indents w nil = 0
  indents w (more h n ns) = w + indents_of w n + indents w ns

-- ---- the four sums, as the walk has them

module _ (quoted : Bool) where
  unfoldable pub summed : Frame → ℕ → Nodes → List ℕ
  summed k w ns = contents quoted ns ∷ separators k ns ∷ lasts k ns ∷ indents w ns ∷ []

  -- the length of the text of the scalar that the bytes l start with
  abbrev pub leaf_length : List ℕ → ℕ
  leaf_length l = length (reading (scalar_of l) [] (λ s n. scalar_text quoted s))

  -- the length of the text of the symbol that they start with
  abbrev pub sym_length : List ℕ → ℕ
  sym_length l = length (reading (sym_of l) [] (λ s n. sym_text quoted s))
