-- The tree text of nodes: `format_element`'s, compact, without trailing separators. Assumes nothing: these are definitions.
use Rattle.std.specs.Prelude.{ℕ, List, [], ◌++◌, Bool, true, false}
use Rattle.output.specs.Logic.{ascii}
use Rattle.tape.specs.Tree.{Node, Nodes, scalar, nest, marker, nil, more}
use Rattle.tape.specs.declared.Frame.{Frame}
use Rattle.tape.specs.declared.Frame.TheVariants.{Top, List as ListF, Sexp, Struct}
use Rattle.writer.specs.Text.{scalar_text, name_text, notes_text, opening, closing}

-- a separator stands before every child but the first: `, ` in lists and structs, a blank in sexps. At top level one node stands, so that its
-- separator is never written
unfoldable pub lead : Bool → Frame → List ℕ
lead false k = []
lead true Top = ascii " "
lead true ListF = ascii ", "
lead true Sexp = ascii " "
lead true Struct = ascii ", "

-- `quoted`: every symbol text is quoted
module _ (quoted : Bool) where
  -- `[1, 2]`, `(1 2)`, `{a: 1}`. A marker is refused by 5, so its text is never asked for
  unfoldable mutual
    pub element : Node → List ℕ
    element (scalar s) = scalar_text quoted s
    element (nest k ns) = opening k ++ elements false k ns ++ closing k
    element marker = ascii "$ion_1_0"

    -- the children from one on; b: another stands before it
    pub elements : Bool → Frame → Nodes → List ℕ
    elements b k nil = []
    elements b k (more h n ns) = (lead b k ++ name_text quoted h.0 ++ notes_text quoted h.1 ++ element n) ++ elements true k ns

  -- the tree text of a tape's nodes, of which there is one
  unfoldable pub tree_text : Nodes → List ℕ
  tree_text ns = elements false Top ns
