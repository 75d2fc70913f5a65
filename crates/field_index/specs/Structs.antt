-- The struct nodes of a tape, and the fields of one. Offsets count from the tape's start; a node's is that of its kind byte.
-- Assumes nothing: these are definitions.
use Rattle.std.specs.Prelude.{ℕ, ◌+◌, List, [], ◌∷◌, ◌++◌, eqb, length}
use Rattle.std.proofs.Math.Option.{Option, none, some}
use Rattle.output.specs.Logic.{if}
use Rattle.tape.specs.Tree.{Node, Nodes, scalar, nest, marker, nil, more, encode_name, encode_head, encode}
use Rattle.tape.specs.Tape.{nodes_of}
use Rattle.tape.specs.declared.Frame.{Frame}
use Rattle.tape.specs.declared.Frame.TheVariants.{Top, List as ListF, Sexp, Struct}
use Rattle.field_index.specs.declared.Entry.{Entry}

-- a container's own offset and children, where it is a struct
abbrev pub own : ℕ → Frame → Nodes → List (ℕ × Nodes)
own at Top ns = []
own at ListF ns = []
own at Sexp ns = []
own at Struct ns = (at, ns) ∷ []

-- the struct nodes, at every depth, each by its offset and its children: those of a node that starts at an offset, and those of nodes side by
-- side. A node starts behind its name and its annotations, and its body 5 bytes behind its kind byte
unfoldable mutual
  pub structs_in : ℕ → Node → List (ℕ × Nodes)
  structs_in at (scalar s) = []
  structs_in at (nest k ns) = own at k ns ++ structs (at + 5) ns
  structs_in at marker = []

  pub structs : ℕ → Nodes → List (ℕ × Nodes)
  structs at nil = []
  structs at (more h n ns) = structs_in (at + length (encode_head h)) n ++ structs (at + length (encode_head h ++ encode n)) ns

-- what stands at an offset
unfoldable pub stands_at : {A : Type 0} → ℕ → List (ℕ × A) → Option A
stands_at at [] = none
stands_at at (x ∷ l) = if (eqb at x.0) (some x.1) (stands_at at l)

-- the children of the struct node at an offset of a tape
unfoldable pub struct_at : List ℕ → ℕ → Option Nodes
struct_at t at = stands_at at (structs 0 (nodes_of t))

-- the fields of a struct, of which the first starts at an offset: a name, and behind it the value, which starts with its 13 where it is annotated
unfoldable pub fields_from : ℕ → Nodes → List Entry
fields_from at nil = []
fields_from at (more h n ns) = record { name = at; value = at + length (encode_name h.0) } ∷ fields_from (at + length (encode_head h ++ encode n)) ns
