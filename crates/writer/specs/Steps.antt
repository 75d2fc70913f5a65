-- What the contracts of the writer's parts name: one walk writes the streaming texts, whose layouts are 0, 1 and 2, and the tree text, which is
-- its layout 3. Assumes nothing: these are definitions.
use Rattle.std.specs.Prelude.{ℕ, ◌+◌, ◌≤◌, ◌≡◌, List, [], ◌∷◌, ◌++◌, Bool, true, false, eqb, length, take, drop}
use Rattle.std.proofs.Math.Option.{Option, none}
use Rattle.output.specs.Logic.{if, byte, ascii}
use Rattle.text_rules.specs.Text.{Sym, symbol_text}
use Rattle.tape.specs.Tree.{Head, Node, Nodes, scalar, nest, marker, nil, more}
use Rattle.tape.specs.Tape.{reading, name_of, notes_of}
use Rattle.tape.specs.declared.Frame.{Frame}
use Rattle.tape.specs.declared.Scalar.{Scalar as ScalarC}
use Rattle.tape.specs.declared.Scalar.TheVariants as C
use Rattle.writer.specs.declared.whitespace_config.Separator.{Separator}
use Rattle.writer.specs.Text.{scalar_text, name_text, notes_text, opening, closing, separator, broken, deeper, blanks}

-- the scalars that go through the code's `Scalar`: a null, a bool, a float, an identifier, a clob; and a blob, though the walk takes it from the tape itself. The others are written straight from the tape
abbrev pub Rare : ScalarC → Type 0
Rare (C.Null t) = Unit
Rare (C.«Bool» b) = Unit
Rare (C.Int n) = ⊥
Rare (C.«Float» x) = Unit
Rare (C.Decimal neg m e) = ⊥
Rare (C.Timestamp x) = ⊥
Rare (C.Symbol n) = ⊥
Rare (C.Id i) = Unit
Rare (C.«String» n) = ⊥
Rare (C.Clob n) = Unit
Rare (C.Blob n) = Unit

-- the name of the child that the bytes l start with, if it has one
abbrev pub name_in : Frame → List ℕ → Option Sym
name_in k l = reading (name_of k l) none (λ a n. a)

-- the annotations that the bytes l start with
abbrev pub notes_in : List ℕ → List Sym
notes_in l = reading (notes_of l) [] (λ ss n. ss)

-- the n bytes of s from a place on are a symbol that stands bare, and eight bytes stand there
pub record Plain (quoted : Bool) (s : List ℕ) (from n : ℕ) : Type 0 where
  pub most : n ≤ 8
  pub room : from + 8 ≤ length s
  pub bare : symbol_text quoted (take n (drop from s)) ≡ take n (drop from s)

-- what stands before a value: blanks, its name, and in the tree text its annotations
unfoldable pub front : Bool → ℕ → ℕ → Head → List ℕ
front quoted y w h = blanks w ++ name_text quoted h.0 ++ if (eqb y 3) (notes_text quoted h.1) []

-- the bytes of a separator, as the code keeps it
unfoldable pub separating : Separator → List ℕ
separating s = if s.pair (byte "," ∷ s.second ∷ []) (s.second ∷ [])

-- what follows a child: a separator, but nothing behind the last child in the tree text
unfoldable pub ending : ℕ → Frame → Bool → List ℕ
ending y k last = if (if (eqb y 3) last false) [] (separator y k)

abbrev pub is_nil : Nodes → Bool
is_nil nil = true
is_nil (more h n ns) = false

module _ (quoted : Bool) where
  -- the text of a node before which w blanks stand, and that of the nodes of a body
  unfoldable mutual
    pub item : ℕ → ℕ → Node → List ℕ
    item y w (scalar s) = scalar_text quoted s
    item y w (nest k ns) = (opening k ++ broken y) ++ items y k (deeper y w) ns ++ (blanks w ++ closing k)
    item y w marker = ascii "$ion_1_0"

    pub items : ℕ → Frame → ℕ → Nodes → List ℕ
    items y k w nil = []
    items y k w (more h n ns) = (front quoted y w h ++ (item y w n ++ ending y k (is_nil ns))) ++ items y k w ns
