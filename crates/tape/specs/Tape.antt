-- What the bytes of a body say: the nodes up to the first structural problem, and the first problem in tape order.
-- Assumes nothing: these are definitions.
use Rattle.std.specs.Prelude.{ℕ, zero, suc, ◌+◌, ◌-◌, ◌%◌, List, [], ◌∷◌, Bool, true, false, length, get_or, take, drop, leb, ltb, eqb, Float}
use Rattle.std.proofs.Math.Option.{Option, none, some}
use Rattle.std.specs.Float.{nan, inf, fin, binary64}
use Rattle.std.specs.Float.Ieee.{of_bits}
use Rattle.output.specs.Logic.{if}
use Rattle.text_rules.specs.Text.{Sym}
use Rattle.text_rules.specs.Utf8.{valid}
use Rattle.numbers.specs.declared.timestamp.Timestamp.{Timestamp}
use Rattle.numbers.specs.Timestamp.{well_formed}
use Rattle.floats.specs.Value.{is_whole}
use Rattle.tape.specs.Bytes.{le_number, signed, first}
use Rattle.tape.specs.Tree.{Scalar, Head, Node, Nodes, null, bool, int, float, decimal, timestamp, symbol, string, clob, blob, scalar, nest, marker, nil, more}
use Rattle.tape.specs.declared.Frame.{Frame}
use Rattle.tape.specs.declared.Frame.TheVariants.{Top, List as ListF, Sexp, Struct}

-- goes on with what was read and the number of its bytes, or gives b
abbrev pub reading : {A B : Type 0} → Option (A × ℕ) → B → (A → ℕ → B) → B
reading none b g = b
reading (some a) b g = g a.0 a.1

abbrev pub kind : List ℕ → ℕ
kind l = get_or l 0 0

-- ---- symbols: what was read, and the number of its bytes

-- the length behind a kind byte
abbrev pub length_of : List ℕ → ℕ
length_of l = le_number 4 (drop 1 l)

-- u32 length, bytes; the length fits the enclosing body
unfoldable pub text_of : List ℕ → Option (List ℕ × ℕ)
text_of l = if (leb (5 + length_of l) (length l)) (some (take (length_of l) (drop 5 l), 5 + length_of l)) none

unfoldable pub sym_of : List ℕ → Option (Sym × ℕ)
sym_of l =
    if (eqb (kind l) 6) (reading (text_of l) none (λ s n. some (Sym.text s, n)))
    (if (eqb (kind l) 7) (if (leb 5 (length l)) (some (Sym.id (length_of l), 5)) none) none)

-- c symbols
unfoldable pub syms_of : ℕ → List ℕ → Option (List Sym × ℕ)
syms_of zero l = some ([], 0)
syms_of (suc c) l = reading (sym_of l) none (λ s n. reading (syms_of c (drop n l)) none (λ ss m. some (s ∷ ss, n + m)))

-- ---- what stands before a value

-- in a struct a name, elsewhere nothing
unfoldable pub name_of : Frame → List ℕ → Option (Option Sym × ℕ)
name_of Top l = some (none, 0)
name_of ListF l = some (none, 0)
name_of Sexp l = some (none, 0)
name_of Struct l = reading (sym_of l) none (λ s n. some (some s, n))

-- count 1..16, that many nodes 6 or 7; or no annotations
unfoldable pub notes_of : List ℕ → Option (List Sym × ℕ)
notes_of l =
    if (eqb (kind l) 13)
    (if (leb 1 (get_or l 1 0)) (if (leb (get_or l 1 0) 16) (reading (syms_of (get_or l 1 0) (drop 2 l)) none (λ ss n. some (ss, 2 + n))) none) none)
    (some ([], 0))

unfoldable pub head_of : Frame → List ℕ → Option (Head × ℕ)
head_of k l = reading (name_of k l) none (λ a n. reading (notes_of (drop n l)) none (λ ss m. some ((a, ss), n + m)))

-- ---- scalars, each from its bytes

-- a byte up to a number
unfoldable pub byte_of : ℕ → (ℕ → Scalar) → List ℕ → Option (Scalar × ℕ)
byte_of most f l = if (leb 2 (length l)) (if (leb (get_or l 1 0) most) (some (f (get_or l 1 0), 2)) none) none

-- i64
unfoldable pub int_of : List ℕ → Option (Scalar × ℕ)
int_of l = if (leb 9 (length l)) (some (int (signed 64 (le_number 8 (drop 1 l))), 9)) none

-- a NaN only as hex 7FF8000000000000
unfoldable pub float_as : ℕ → Option (Scalar × ℕ)
float_as b =
    if (eqb b 0x7FF8_0000_0000_0000) (some (float nan, 9))
    (if (ltb 0x7FF0_0000_0000_0000 (b % 0x8000_0000_0000_0000)) none (some (float (of_bits binary64 b), 9)))

unfoldable pub float_of : List ℕ → Option (Scalar × ℕ)
float_of l = if (leb 9 (length l)) (float_as (le_number 8 (drop 1 l))) none

-- sign byte (1 negative), u64 magnitude, i32 exponent
unfoldable pub decimal_of : List ℕ → Option (Scalar × ℕ)
decimal_of l =
    if (leb 14 (length l))
    (if (leb (get_or l 1 0) 1) (some (decimal (eqb (get_or l 1 0) 1) (le_number 8 (drop 2 l)) (signed 32 (le_number 4 (drop 10 l))), 14)) none)
    none

-- precision; u16 year; bytes month, day, hour, minute, second; i16 offset; digit count; u32 fraction
unfoldable pub timestamp_as : List ℕ → Timestamp
timestamp_as l = record {
  precision = get_or l 1 0;
  year = le_number 2 (drop 2 l);
  month = get_or l 4 0;
  day = get_or l 5 0;
  hour = get_or l 6 0;
  minute = get_or l 7 0;
  second = get_or l 8 0;
  offset = signed 16 (le_number 2 (drop 9 l));
  digits = get_or l 11 0;
  fraction = le_number 4 (drop 12 l);
}

unfoldable pub timestamp_of : List ℕ → Option (Scalar × ℕ)
timestamp_of l = if (leb 16 (length l)) (some (timestamp (timestamp_as l), 16)) none

unfoldable pub symbol_of : List ℕ → Option (Scalar × ℕ)
symbol_of l = reading (sym_of l) none (λ s n. some (symbol s, n))

unfoldable pub sized_of : (List ℕ → Scalar) → List ℕ → Option (Scalar × ℕ)
sized_of f l = reading (text_of l) none (λ s n. some (f s, n))

-- the kinds of scalars; null's type byte is 0..12, a bool 0 or 1
unfoldable pub scalar_of : List ℕ → Option (Scalar × ℕ)
scalar_of l =
    if (eqb (kind l) 0) (byte_of 12 null l)
    (if (eqb (kind l) 1) (byte_of 1 (λ b. bool (eqb b 1)) l)
    (if (eqb (kind l) 2) (int_of l)
    (if (eqb (kind l) 3) (float_of l)
    (if (eqb (kind l) 4) (decimal_of l)
    (if (eqb (kind l) 5) (timestamp_of l)
    (if (eqb (kind l) 6) (symbol_of l)
    (if (eqb (kind l) 7) (symbol_of l)
    (if (eqb (kind l) 8) (sized_of string l)
    (if (eqb (kind l) 9) (sized_of clob l)
    (if (eqb (kind l) 15) (sized_of blob l) none))))))))))

-- ---- values

-- none; a leaf and the number of its bytes; a container, and the length of its body
pub data Value : Type 0 where
  absent : Value
  leaf : Node → ℕ → Value
  body : Frame → ℕ → Value

-- u32 length of the nodes inside, which fits the enclosing body
unfoldable pub open_of : Frame → List ℕ → Value
open_of k l = if (leb (5 + length_of l) (length l)) (body k (length_of l)) absent

-- free: a marker may stand here
unfoldable pub value_of : Bool → List ℕ → Value
value_of free l =
    if (eqb (kind l) 10) (open_of ListF l)
    (if (eqb (kind l) 11) (open_of Sexp l)
    (if (eqb (kind l) 12) (open_of Struct l)
    (if (eqb (kind l) 14) (if free (leaf marker 1) absent)
    (reading (scalar_of l) absent (λ s n. leaf (scalar s) n)))))

-- ---- children: a head and a value

pub data Child : Type 0 where
  bad : Child
  -- the number of its bytes
  single : Head → Node → ℕ → Child
  -- where its body starts, and the length of the body
  tree : Head → Frame → ℕ → ℕ → Child

-- a marker stands at top level, unannotated
unfoldable pub free_at : Frame → List ℕ → Bool
free_at Top l = if (eqb (kind l) 13) false true
free_at ListF l = false
free_at Sexp l = false
free_at Struct l = false

abbrev pub headed_child : Head → ℕ → Value → Child
headed_child h n absent = bad
headed_child h n (leaf v m) = single h v (n + m)
headed_child h n (body f m) = tree h f (n + 5) m

unfoldable pub child_of : Frame → List ℕ → Child
child_of k l = reading (head_of k l) bad (λ h n. headed_child h n (value_of (free_at k l) (drop n l)))

-- ---- what is wrong with contents that stand where they must: the refusal, or 0

-- 6 and 8 are UTF-8
unfoldable pub text_fault : List ℕ → ℕ
text_fault s = if (valid s) 0 2

abbrev pub sym_fault : Sym → ℕ
sym_fault (Sym.text s) = text_fault s
sym_fault (Sym.id n) = 0

unfoldable pub syms_fault : List Sym → ℕ
syms_fault [] = 0
syms_fault (s ∷ ss) = first (sym_fault s) (syms_fault ss)

abbrev pub name_fault : Option Sym → ℕ
name_fault none = 0
name_fault (some s) = sym_fault s

unfoldable pub head_fault : Head → ℕ
head_fault h = first (name_fault h.0) (syms_fault h.1)

-- a finite float that is no whole number up to the most
unfoldable pub float_fault : Float → ℕ
float_fault nan = 0
float_fault (inf s) = 0
float_fault (fin s m e) = if (is_whole (fin s m e)) 0 4

unfoldable pub scalar_fault : Scalar → ℕ
scalar_fault (null t) = 0
scalar_fault (bool b) = 0
scalar_fault (int n) = 0
scalar_fault (float x) = float_fault x
scalar_fault (decimal neg m e) = 0
scalar_fault (timestamp x) = if (well_formed x) 0 2
scalar_fault (symbol s) = sym_fault s
scalar_fault (string s) = text_fault s
scalar_fault (clob s) = 0
scalar_fault (blob s) = 0

abbrev pub fault : Node → ℕ
fault (scalar s) = scalar_fault s
fault (nest k ns) = 0
fault marker = 0

-- ---- a body

abbrev pub Walked : Type 0
Walked = Nodes × ℕ

-- a child with its head, the first problem in them, and what comes behind
abbrev pub join : Head → Node → ℕ → Walked → Walked
join h n p r = (more h n r.0, first (first (head_fault h) p) r.1)

abbrev pub turn : (Frame → List ℕ → Walked) → Child → List ℕ → (ℕ → Walked) → Walked
turn inner bad l rest = (nil, 2)
turn inner (single h n m) l rest = join h n (fault n) (rest m)
turn inner (tree h k q m) l rest = join h (nest k (inner k (take m (drop q l))).0) (inner k (take m (drop q l))).1 (rest (q + m))

-- the children in a body of which the first n bytes are passed
unfoldable pub level : (Frame → List ℕ → Walked) → Frame → ℕ → List ℕ → Walked
level inner k n [] = (nil, 0)
level inner k (suc n) (x ∷ l) = level inner k n l
level inner k zero (x ∷ l) = turn inner (child_of k (x ∷ l)) (x ∷ l) (λ m. level inner k (m - 1) l)

-- d: how many bodies may be opened, this one included
unfoldable pub walk : ℕ → Frame → List ℕ → Walked
walk zero k l = (nil, 3)
walk (suc d) k l = level (walk d) k 0 l

-- ---- a whole tape

-- At most 64 containers are open together: with the top level, 65 bodies
unfoldable pub body_of : List ℕ → Walked
body_of t = walk 65 Top (take (length t - 8) t)

unfoldable pub nodes_of : List ℕ → Nodes
nodes_of t = (body_of t).0
