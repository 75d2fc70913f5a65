-- What refusal 5 looks for, at every depth. Assumes nothing: these are definitions.
use Rattle.std.specs.Prelude.{List, [], ◌∷◌, Bool, true, false, ◌||◌, not, eqb}
use Rattle.std.proofs.Math.Option.{Option, none, some}
use Rattle.text_rules.specs.Text.{Sym}
use Rattle.tape.specs.Tree.{Scalar, Head, Node, Nodes, null, bool, int, float, decimal, timestamp, symbol, string, clob, blob, scalar, nest, marker, nil, more}

-- ---- streaming: a kind 13

abbrev pub annotated : List Sym → Bool
annotated [] = false
annotated (s ∷ ss) = true

unfoldable mutual
  pub noted : Node → Bool
  noted (scalar s) = false
  noted (nest k ns) = noteds ns
  noted marker = false

  pub noteds : Nodes → Bool
  noteds nil = false
  noteds (more h n ns) = annotated h.1 || noted n || noteds ns

-- ---- tree: an identifier but 0, as a value, a name or an annotation

abbrev pub sym_numbered : Sym → Bool
sym_numbered (Sym.text s) = false
sym_numbered (Sym.id n) = not (eqb n 0)

unfoldable pub syms_numbered : List Sym → Bool
syms_numbered [] = false
syms_numbered (s ∷ ss) = sym_numbered s || syms_numbered ss

abbrev pub name_numbered : Option Sym → Bool
name_numbered none = false
name_numbered (some s) = sym_numbered s

unfoldable pub head_numbered : Head → Bool
head_numbered h = name_numbered h.0 || syms_numbered h.1

unfoldable pub scalar_numbered : Scalar → Bool
scalar_numbered (null t) = false
scalar_numbered (bool b) = false
scalar_numbered (int n) = false
scalar_numbered (float x) = false
scalar_numbered (decimal neg m e) = false
scalar_numbered (timestamp x) = false
scalar_numbered (symbol s) = sym_numbered s
scalar_numbered (string s) = false
scalar_numbered (clob s) = false
scalar_numbered (blob s) = false

unfoldable mutual
  pub numbered : Node → Bool
  numbered (scalar s) = scalar_numbered s
  numbered (nest k ns) = numbereds ns
  numbered marker = false

  pub numbereds : Nodes → Bool
  numbereds nil = false
  numbereds (more h n ns) = head_numbered h || numbered n || numbereds ns
