-- The order on the nodes of accepted tapes: document 02, A11. Assumes nothing: these are definitions.
use Rattle.std.specs.Prelude.{ℕ, suc, ◌+◌, ◌-◌, ◌*◌, ◌^◌, ℤ, pos, negsuc, neg_ℤ, List, [], ◌∷◌, Bool, true, false, not, eqb, Float, Result, Ok, Err}
use Rattle.std.proofs.Math.Option.{Option, none, some}
use Rattle.std.specs.Float.{nan, inf, fin}
use Rattle.output.specs.Logic.{if}
use Rattle.floats.specs.Value.{magnitude, is_negative}
use Rattle.text_rules.specs.Text.{Sym}
use Rattle.numbers.specs.declared.timestamp.Timestamp.{Timestamp}
use Rattle.tape.specs.Tree.{Scalar, Head, Node, Nodes, null, bool, int, float, decimal, timestamp, symbol, string, clob, blob, scalar, nest, marker, nil, more, bit, tag}
use Rattle.tape.specs.Tape.{nodes_of}
use Rattle.tape.specs.Verdict.{verdict}
use Rattle.tape.specs.Answer.{fault_number}
use Rattle.tape.specs.declared.answer.Fault.{Fault}
use Rattle.std.specs.declared.cmp.Ordering.{Ordering}
use Rattle.std.specs.declared.cmp.Ordering.TheVariants.{Less, Equal, Greater}
use Rattle.std.specs.Ordering.{ordering_then, nat_cmp}
use Rattle.std.specs.Cmp.Lexicographic.{slice_cmp}

-- ---- how orders are put together

-- integers in their order, by the naturals that they are made of
abbrev pub integers : ℤ → ℤ → Ordering
integers (pos m) (pos n) = nat_cmp m n
integers (pos m) (negsuc n) = Greater
integers (negsuc m) (pos n) = Less
integers (negsuc m) (negsuc n) = nat_cmp n m

-- nothing before something
abbrev pub options : {A : Type 0} → (A → A → Ordering) → Option A → Option A → Ordering
options c none none = Equal
options c none (some y) = Less
options c (some x) none = Greater
options c (some x) (some y) = c x y

-- ---- decimals

-- a decimal by sign (true: negative), magnitude and exponent
abbrev pub Decimal : Type 0
Decimal = Bool × ℕ × ℤ

-- how far e lies above f; 0 where it does not
abbrev pub above : ℤ → ℤ → ℕ
above (pos m) (pos n) = m - n
above (pos m) (negsuc n) = m + suc n
above (negsuc m) (pos n) = 0
above (negsuc m) (negsuc n) = n - m

-- the integer with a sign
abbrev pub signed_by : Bool → ℕ → ℤ
signed_by true n = neg_ℤ (pos n)
signed_by false n = pos n

-- the value of d over ten to the lesser of its exponent and e: an integer
abbrev pub value_over : ℤ → Decimal → ℤ
value_over e d = signed_by d.0 (d.1 * 10 ^ above d.2 e)

-- by exact value: both over ten to the lesser of the two exponents
unfoldable pub values : Decimal → Decimal → Ordering
values d f = integers (value_over f.2 d) (value_over d.2 f)

-- by exact value, then by exponent, then negative before positive
abbrev pub decimals : Decimal → Decimal → Ordering
decimals d f = ordering_then (values d f) (ordering_then (integers d.2 f.2) (nat_cmp (bit (not d.0)) (bit (not f.0))))

-- ---- scalars

-- -inf, finite, +inf, nan
abbrev pub rank : Float → ℕ
rank (inf true) = 0
rank (fin s m e) = 1
rank (inf false) = 2
rank nan = 3

abbrev pub or_zero : Option ℕ → ℕ
or_zero none = 0
or_zero (some n) = n

-- the value of a finite float: those of accepted tapes are whole numbers
unfoldable pub whole_value : Float → ℤ
whole_value x = signed_by (is_negative x) (or_zero (magnitude x))

-- the fields of a timestamp as listed: precision, year, month, day, hour, minute, second, offset, digit count, fraction
abbrev pub fields_of : Timestamp → List ℤ
fields_of x =
    pos x.precision
    ∷ pos x.year
    ∷ pos x.month
    ∷ pos x.day
    ∷ pos x.hour
    ∷ pos x.minute
    ∷ pos x.second
    ∷ x.offset
    ∷ pos x.digits
    ∷ pos x.fraction
    ∷ []

-- what a scalar is compared by: its kind number, then numbers, bytes and a decimal, of which its kind has one
abbrev pub Key : Type 0
Key = ℕ × List ℤ × List ℕ × Decimal

abbrev pub by_numbers : ℕ → List ℤ → Key
by_numbers k l = (k, l, [], (false, 0, pos 0))

abbrev pub by_bytes : ℕ → List ℕ → Key
by_bytes k s = (k, [], s, (false, 0, pos 0))

abbrev pub by_decimal : ℕ → Decimal → Key
by_decimal k d = (k, [], [], d)

-- a kind is one clause; of floats the rank, then the value, then negative before positive, which tells -0 from 0
unfoldable pub key_of : Scalar → Key
key_of (null t) = by_numbers 0 (pos t ∷ [])
key_of (bool b) = by_numbers 1 (pos (bit b) ∷ [])
key_of (int n) = by_numbers 2 (n ∷ [])
key_of (float x) = by_numbers 3 (pos (rank x) ∷ whole_value x ∷ pos (bit (not (is_negative x))) ∷ [])
key_of (decimal neg m e) = by_decimal 4 (neg, m, e)
key_of (timestamp x) = by_numbers 5 (fields_of x)
key_of (symbol (Sym.text s)) = by_bytes 6 s
key_of (symbol (Sym.id n)) = by_numbers 7 (pos n ∷ [])
key_of (string s) = by_bytes 8 s
key_of (clob s) = by_bytes 9 s
key_of (blob s) = by_bytes 15 s

abbrev pub keys : Key → Key → Ordering
keys x y = ordering_then (nat_cmp x.0 y.0) (ordering_then (slice_cmp integers x.1 y.1) (ordering_then (slice_cmp nat_cmp x.2 y.2) (decimals x.3 y.3)))

abbrev pub scalars : Scalar → Scalar → Ordering
scalars x y = keys (key_of x) (key_of y)

-- names and annotations, as the nodes 6 and 7 that they are
abbrev pub syms : Sym → Sym → Ordering
syms s t = scalars (symbol s) (symbol t)

-- ---- nodes

-- the kind number of a node
abbrev pub kind_of : Node → ℕ
kind_of (scalar s) = (key_of s).0
kind_of (nest f ns) = tag f
kind_of marker = 14

-- and behind annotations
abbrev pub kind_behind : List Sym → Node → ℕ
kind_behind [] n = kind_of n
kind_behind (s ∷ ss) n = 13

-- Two nodes with their heads, w being how the contents of two values of one kind compare: the names; then the kinds; then, of annotated nodes,
-- the annotations, and the values by kind and contents. (Of two nodes without annotations of one kind, what stands between is equal.)
abbrev pub headed : Head → Node → Head → Node → Ordering → Ordering
headed h n g m w =
    ordering_then (options syms h.0 g.0)
    (ordering_then (nat_cmp (kind_behind h.1 n) (kind_behind g.1 m)) (ordering_then (slice_cmp syms h.1 g.1) (ordering_then (nat_cmp (kind_of n) (kind_of m)) w)))

-- Contents of values of one kind; child by child in containers. Where one is a scalar, a container or the marker and the other is not, the kinds
-- have told them apart.
unfoldable mutual
  pub contents : Node → Node → Ordering
  contents (scalar s) (scalar t) = scalars s t
  contents (scalar s) (nest g ms) = Less
  contents (scalar s) marker = Less
  contents (nest f ns) (scalar t) = Greater
  contents (nest f ns) (nest g ms) = nodes ns ms
  contents (nest f ns) marker = Less
  contents marker (scalar t) = Greater
  contents marker (nest g ms) = Greater
  contents marker marker = Equal

  -- in turn, and a proper beginning is less
  pub nodes : Nodes → Nodes → Ordering
  nodes nil nil = Equal
  nodes nil (more g m ms) = Less
  nodes (more h n ns) nil = Greater
  nodes (more h n ns) (more g m ms) = ordering_then (headed h n g m (contents n m)) (nodes ns ms)

-- ---- tapes

-- two accepted tapes
unfoldable pub tapes : List ℕ → List ℕ → Ordering
tapes t u = nodes (nodes_of t) (nodes_of u)

-- of any two: the order, or the number of the refusal of the first that is refused
unfoldable pub compared : List ℕ → List ℕ → Result Ordering ℕ
compared t u = if (eqb (verdict t) 0) (if (eqb (verdict u) 0) (Ok (tapes t u)) (Err (verdict u))) (Err (verdict t))

-- and the code's answer, by the refusal's number
abbrev pub told : Result Ordering Fault → Result Ordering ℕ
told (Ok w) = Ok w
told (Err r) = Err (fault_number r)
