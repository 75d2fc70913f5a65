-- The tree that a text or a tape means, and its bytes. Assumes nothing: these are definitions.
use Rattle.std.specs.Prelude.{ℕ, suc, ℤ, List, [], ◌∷◌, ◌++◌, Bool, true, false, length, Float}
use Rattle.std.proofs.Math.Option.{Option, none, some}
use Rattle.std.specs.Float.{binary64}
use Rattle.std.specs.Float.Ieee.{to_bits, is_nan}
use Rattle.output.specs.Logic.{if}
use Rattle.output.specs.Wrote.{le_bytes}
use Rattle.text_rules.specs.Text.{Sym}
use Rattle.numbers.specs.declared.timestamp.Timestamp.{Timestamp}
use Rattle.tape.specs.Bytes.{bits}
use Rattle.tape.specs.declared.Frame.{Frame}
use Rattle.tape.specs.declared.Frame.TheVariants.{Top, List as ListF, Sexp, Struct}

-- a value that is no container: a null of a type, a bool, an int, a float, a decimal by sign, magnitude and exponent, a timestamp, a symbol,
-- a string, a clob, a blob
pub data Scalar : Type 0 where
  null : ℕ → Scalar
  bool : Bool → Scalar
  int : ℤ → Scalar
  float : Float → Scalar
  decimal : Bool → ℕ → ℤ → Scalar
  timestamp : Timestamp → Scalar
  symbol : Sym → Scalar
  string : List ℕ → Scalar
  clob : List ℕ → Scalar
  blob : List ℕ → Scalar

-- what stands before a value: the name in a struct, and the annotations
abbrev pub Head : Type 0
Head = Option Sym × List Sym

-- a node behind its head: a scalar, a container with its children, or the version marker. `nest Top` is no node of a tape (`Inner`)
mutual
  pub data Node : Type 0 where
    scalar : Scalar → Node
    nest : Frame → Nodes → Node
    marker : Node

  pub data Nodes : Type 0 where
    nil : Nodes
    more : Head → Node → Nodes → Nodes

-- how many values stand side by side
unfoldable pub size : Nodes → ℕ
size nil = 0
size (more h n ns) = suc (size ns)

-- ---- their bytes

abbrev pub bit : Bool → ℕ
bit true = 1
bit false = 0

-- the kind byte of a container: 10 list, 11 sexp, 12 struct
abbrev pub tag : Frame → ℕ
tag Top = 0
tag ListF = 10
tag Sexp = 11
tag Struct = 12

-- 64 bits; a NaN only as hex 7FF8000000000000
unfoldable pub float_bits : Float → ℕ
float_bits x = if (is_nan x) 0x7FF8_0000_0000_0000 (to_bits binary64 x)

-- u32 length, bytes
unfoldable pub sized : List ℕ → List ℕ
sized s = le_bytes 4 (length s) ++ s

-- precision; u16 year; bytes month, day, hour, minute, second; i16 offset; digit count; u32 fraction
unfoldable pub encode_timestamp : Timestamp → List ℕ
encode_timestamp x =
    x.precision ∷ (le_bytes 2 x.year
    ++ (x.month ∷ x.day ∷ x.hour ∷ x.minute ∷ x.second ∷ (le_bytes 2 (bits 16 x.offset) ++ (x.digits ∷ le_bytes 4 x.fraction))))

-- 6 symbol text, 7 symbol identifier
unfoldable pub encode_sym : Sym → List ℕ
encode_sym (Sym.text s) = 6 ∷ sized s
encode_sym (Sym.id n) = 7 ∷ le_bytes 4 n

-- the kind byte, and what stands behind it
unfoldable pub encode_scalar : Scalar → List ℕ
encode_scalar (null t) = 0 ∷ t ∷ []
encode_scalar (bool b) = 1 ∷ bit b ∷ []
encode_scalar (int n) = 2 ∷ le_bytes 8 (bits 64 n)
encode_scalar (float x) = 3 ∷ le_bytes 8 (float_bits x)
encode_scalar (decimal neg m e) = 4 ∷ bit neg ∷ (le_bytes 8 m ++ le_bytes 4 (bits 32 e))
encode_scalar (timestamp x) = 5 ∷ encode_timestamp x
encode_scalar (symbol s) = encode_sym s
encode_scalar (string s) = 8 ∷ sized s
encode_scalar (clob s) = 9 ∷ sized s
encode_scalar (blob s) = 15 ∷ sized s

unfoldable pub encode_syms : List Sym → List ℕ
encode_syms [] = []
encode_syms (s ∷ ss) = encode_sym s ++ encode_syms ss

unfoldable pub encode_name : Option Sym → List ℕ
encode_name none = []
encode_name (some s) = encode_sym s

-- 13 annotated: count, that many nodes 6 or 7; nothing where there are none
unfoldable pub encode_notes : List Sym → List ℕ
encode_notes [] = []
encode_notes (s ∷ ss) = 13 ∷ length (s ∷ ss) ∷ encode_syms (s ∷ ss)

-- in a struct, a name precedes each value
unfoldable pub encode_head : Head → List ℕ
encode_head h = encode_name h.0 ++ encode_notes h.1

unfoldable mutual
  pub encode : Node → List ℕ
  encode (scalar s) = encode_scalar s
  encode (nest k ns) = tag k ∷ (le_bytes 4 (length (encodes ns)) ++ encodes ns)
  encode marker = 14 ∷ []

  pub encodes : Nodes → List ℕ
  encodes nil = []
  encodes (more h n ns) = encode_head h ++ encode n ++ encodes ns

-- the nodes, then an 8-byte trailer: u32 body length, u32 number of top-level nodes
unfoldable pub tape : Nodes → List ℕ
tape ns = encodes ns ++ le_bytes 4 (length (encodes ns)) ++ le_bytes 4 (size ns)
