-- The well-formed trees: those whose tape, unless it is too long, is refused by nothing of 1 to 4 (`Fines 64 Top`, theorem
-- `accepted_exactly` of the claims). Assumes nothing: these are definitions.
use Rattle.std.specs.Prelude.{ℕ, zero, suc, ◌^◌, ◌≤◌, ◌<◌, ◌≡◌, List, [], ◌∷◌, true, T, Float, length, get_or}
use Rattle.std.proofs.Math.Option.{Option, none, some}
use Rattle.std.specs.Float.{nan, inf, fin, binary64}
use Rattle.std.specs.Float.Ieee.{fits}
use Rattle.std.specs.Int.{w32, w64}
use Rattle.std.proofs.Common.{SFits}
use Rattle.text_rules.specs.Text.{Sym}
use Rattle.text_rules.specs.Utf8.{valid}
use Rattle.numbers.specs.Timestamp.{well_formed}
use Rattle.floats.specs.Value.{is_whole}
use Rattle.tape.specs.Tree.{Scalar, Head, Node, Nodes, null, bool, int, float, decimal, timestamp, symbol, string, clob, blob, scalar, nest, marker, nil, more, encodes}
use Rattle.tape.specs.declared.Frame.{Frame}
use Rattle.tape.specs.declared.Frame.TheVariants.{Top, List as ListF, Sexp, Struct}

abbrev pub Bytes : List ℕ → Type 0
Bytes l = (i : ℕ) → get_or l i 0 < 256

-- ---- contents

-- bytes whose number fits u32
pub record FineBytes (s : List ℕ) : Type 0 where
  pub bytes : Bytes s
  pub short : length s < 2 ^ 32

-- the same in UTF-8
pub record FineText (s : List ℕ) : Type 0 where
  pub plain : FineBytes s
  pub utf8 : valid s ≡ true

-- text, or an identifier that fits u32
abbrev pub FineSym : Sym → Type 0
FineSym (Sym.text s) = FineText s
FineSym (Sym.id n) = n < 2 ^ 32

abbrev pub FineSyms : List Sym → Type 0
FineSyms [] = Unit
FineSyms (s ∷ ss) = FineSym s × FineSyms ss

-- nan, an infinity, or one of 64 bits that is a whole number up to the most
abbrev pub FineFloat : Float → Type 0
FineFloat nan = Unit
FineFloat (inf s) = Unit
FineFloat (fin s m e) = T (fits binary64 (fin s m e)) × (is_whole (fin s m e) ≡ true)

-- null's type byte is 0..12; an int is an i64, a decimal's magnitude a u64 and its exponent an i32
abbrev pub FineScalar : Scalar → Type 0
FineScalar (null t) = t ≤ 12
FineScalar (bool b) = Unit
FineScalar (int n) = SFits w64 n
FineScalar (float x) = FineFloat x
FineScalar (decimal neg m e) = (m < 2 ^ 64) × SFits w32 e
FineScalar (timestamp x) = well_formed x ≡ true
FineScalar (symbol s) = FineSym s
FineScalar (string s) = FineText s
FineScalar (clob s) = FineBytes s
FineScalar (blob s) = FineBytes s

-- ---- where things stand

-- a name stands in a struct, and nowhere else
abbrev pub FineName : Frame → Option Sym → Type 0
FineName Top none = Unit
FineName Top (some s) = ⊥
FineName ListF none = Unit
FineName ListF (some s) = ⊥
FineName Sexp none = Unit
FineName Sexp (some s) = ⊥
FineName Struct none = ⊥
FineName Struct (some s) = FineSym s

-- a name, and at most 16 annotations
pub record FineHead (k : Frame) (h : Head) : Type 0 where
  pub name : FineName k h.0
  pub notes : FineSyms h.1
  pub few : length h.1 ≤ 16

-- a marker stands at top level, unannotated
abbrev pub FineMarker : Frame → List Sym → Type 0
FineMarker Top [] = Unit
FineMarker Top (s ∷ ss) = ⊥
FineMarker ListF ss = ⊥
FineMarker Sexp ss = ⊥
FineMarker Struct ss = ⊥

-- a container is a list, a sexp or a struct
abbrev pub Inner : Frame → Type 0
Inner Top = ⊥
Inner ListF = Unit
Inner Sexp = Unit
Inner Struct = Unit

-- d: how many containers may be opened inside. The number of bytes in a container fits u32.
unfoldable mutual
  pub Fine : ℕ → Frame → List Sym → Node → Type 0
  Fine d k ss (scalar s) = FineScalar s
  Fine zero k ss (nest f ns) = ⊥
  Fine (suc d) k ss (nest f ns) = Inner f × (length (encodes ns) < 2 ^ 32) × Fines d f ns
  Fine d k ss marker = FineMarker k ss

  pub Fines : ℕ → Frame → Nodes → Type 0
  Fines d k nil = Unit
  Fines d k (more h n ns) = FineHead k h × Fine d k h.1 n × Fines d k ns
