-- The order of scalars, nodes and tapes is total, and equal exactly for equal ones. Assumes nothing.
use Rattle.std.specs.Ordering.{nat_cmp, ordering_reverse, ordering_then}
use Rattle.std.specs.Cmp.Lexicographic.{slice_cmp}
use mathlib.Core.Path.{◌≡◌, refl, sym, ap, ◌∙◌}
use mathlib.Core.Bool.{Bool, true, false, not}
use mathlib.Core.List.{List, [], ◌∷◌}
use mathlib.Core.Option.{Option, none, some}
use Prim.Native.Nat.{ℕ, zero, suc}
use lib.IntN.{ℤ, pos, nat_abs}
use lib.ListN.{get_or}
use lib.Dec.{eqb}
use lib.Ieee.{Float, nan, inf, fin}
use Rattle.output.specs.Logic.{if}
use Rattle.text_rules.specs.Text.{Sym}
use Rattle.numbers.specs.declared.timestamp.Timestamp.{Timestamp}
use Rattle.tape.specs.declared.Frame.{Frame}
use Rattle.tape.specs.declared.Frame.TheVariants.{Top, List as ListF, Sexp, Struct}
use Rattle.tape.specs.Tree.{Scalar, Head, Node, Nodes, null, bool, int, float, decimal, timestamp, symbol, string, clob, blob, scalar, nest, marker, nil, more, bit, tag, tape}
use Rattle.tape.specs.Tape.{nodes_of}
use Rattle.tape.specs.Fine.{FineSym, FineSyms, FineFloat, FineScalar, FineName, Fine, Fines}
use Rattle.floats.specs.Value.{magnitude, is_negative, whole_float}
use Rattle.floats.proofs.ValueLaws.{is-whole, whole-magnitude}
use Rattle.tape.proofs.Walking.{tape_back}
use Rattle.tape.proofs.FineBack.{tape_fine}
use Rattle.std.specs.declared.cmp.Ordering.{Ordering}
use Rattle.std.specs.declared.cmp.Ordering.TheVariants.{Less, Equal, Greater}
use Rattle.order.specs.Order.{integers, options, Decimal, signed_by, decimals, rank, whole_value, Key, key_of, keys, scalars, syms, kind_of, kind_behind, headed, contents, nodes, tapes}
use Rattle.order.specs.Total.{Through, Total, Accepted}
use Rattle.std.proofs.lemmas.Map.Lookups.{exact_unsigned}
use Rattle.order.proofs.Combine.{Any, then, of, then_swap, through_then, through_less, through_greater, less_through, greater_through, numbers-total, integers-total, both_equal, All, all_any, lists_total, Maybe, options_total, reflexive, equal_exactly, antisymmetric, transitive}
use Rattle.order.proofs.Decimals.{decimals-total}

abbrev Never : {A : Type 0} → A → Type 0
Never x = ⊥

-- ---- keys
abbrev kind : Key → ℕ
kind x = x.0

abbrev fields : Key → List ℤ
fields x = x.1

abbrev bytes : Key → List ℕ
bytes x = x.2

abbrev number : Key → Decimal
number x = x.3

abbrev last : Key → Key → Ordering
last x y = ordering_then (slice_cmp nat_cmp (bytes x) (bytes y)) (decimals (number x) (number y))

abbrev rest : Key → Key → Ordering
rest x y = ordering_then (slice_cmp integers (fields x) (fields y)) (last x y)

by_kind : Total Never (λ x y. nat_cmp (kind x) (kind y))
by_kind = of nat_cmp kind numbers-total (λ x y p. absurd p)

by-fields : Total Never (λ x y. slice_cmp integers (fields x) (fields y))
by-fields = of (slice_cmp integers) fields (lists_total integers-total) (λ x y p. absurd p)

by_bytes : Total Never (λ x y. slice_cmp nat_cmp (bytes x) (bytes y))
by_bytes = of (slice_cmp nat_cmp) bytes (lists_total numbers-total) (λ x y p. absurd p)

by_number : Total Never (λ x y. decimals (number x) (number y))
by_number = of decimals number decimals-total (λ x y p. absurd p)

last-total : Total Never last
last-total = then (λ x y. slice_cmp nat_cmp (bytes x) (bytes y)) (λ x y. decimals (number x) (number y)) by_bytes by_number (λ x y p. absurd p)

rest-total : Total Never rest
rest-total = then (λ x y. slice_cmp integers (fields x) (fields y)) last by-fields last-total (λ x y p. absurd p)

keys-same : (x y : Key) → nat_cmp (kind x) (kind y) ≡ Equal → rest x y ≡ Equal → x ≡ y
keys-same x y u v =
    let b = both_equal (slice_cmp integers (fields x) (fields y)) (last x y) v in
    let c = both_equal (slice_cmp nat_cmp (bytes x) (bytes y)) (decimals (number x) (number y)) b.1 in
    let k : x.0 ≡ y.0 = exact_unsigned x.0 y.0 u in
    let f : x.1 ≡ y.1 = (lists_total integers-total).same x.1 y.1 (all_any x.1) (all_any y.1) b.0 in
    let s : x.2 ≡ y.2 = (lists_total numbers-total).same x.2 y.2 (all_any x.2) (all_any y.2) c.0 in
    let d : x.3 ≡ y.3 = decimals-total.same x.3 y.3 tt tt c.1 in
    λ i. (k i, f i, s i, d i)

pub keys-total : Total Any keys
keys-total = then (λ x y. nat_cmp (kind x) (kind y)) rest by_kind rest-total (λ x y p q. keys-same x y)

-- ---- scalars: a key gives its scalar back

-- of a rank, a value and a sign
unranked : ℕ → ℤ → ℕ → Float
unranked r z p = if (eqb r 0) (inf true) (if (eqb r 1) (whole_float (eqb p 0) (nat_abs z)) (if (eqb r 2) (inf false) nan))

-- the number in a place
abbrev whole : List ℤ → ℕ → ℕ
whole l i = nat_abs (get_or l i (pos 0))

timed : List ℤ → Timestamp
timed l = record {
  precision = whole l 0;
  year = whole l 1;
  month = whole l 2;
  day = whole l 3;
  hour = whole l 4;
  minute = whole l 5;
  second = whole l 6;
  offset = get_or l 7 (pos 0);
  digits = whole l 8;
  fraction = whole l 9;
}

back : Key → Scalar
back x =
    if (eqb x.0 0) (null (whole x.1 0))
    (if (eqb x.0 1) (bool (eqb (whole x.1 0) 1))
    (if (eqb x.0 2) (int (get_or x.1 0 (pos 0)))
    (if (eqb x.0 3) (float (unranked (whole x.1 0) (get_or x.1 1 (pos 0)) (whole x.1 2)))
    (if (eqb x.0 4) (decimal x.3.0 x.3.1 x.3.2)
    (if (eqb x.0 5) (timestamp (timed x.1))
    (if (eqb x.0 6) (symbol (Sym.text x.2))
    (if (eqb x.0 7) (symbol (Sym.id (whole x.1 0)))
    (if (eqb x.0 8) (string x.2) (if (eqb x.0 9) (clob x.2) (blob x.2))))))))))

abs_signed : (s : Bool) (n : ℕ) → nat_abs (signed_by s n) ≡ n
abs_signed true zero = refl
abs_signed true (suc n) = refl
abs_signed false n = refl

sign_back : (s : Bool) → eqb (bit (not s)) 0 ≡ s
sign_back true = refl
sign_back false = refl

float_back : (x : Float) → FineFloat x → unranked (rank x) (whole_value x) (bit (not (is_negative x))) ≡ x
unfolding unranked whole_value
float_back nan h = refl
float_back (inf true) h = refl
float_back (inf false) h = refl
float_back (fin s m e) h =
    let x : Float = fin s m e in
    let w = is-whole x h.0 h.1 in
    let m : magnitude x ≡ some w.0 = ap magnitude w.3 ∙ whole-magnitude (is_negative x) w.0 w.1 in
    rw (m, sign_back (is_negative x), abs_signed (is_negative x) w.0) (sym w.3)

key_back : (s : Scalar) → FineScalar s → back (key_of s) ≡ s
unfolding key_of back timed
key_back (null t) h = refl
key_back (bool true) h = refl
key_back (bool false) h = refl
key_back (int n) h = refl
key_back (float x) h = ap float (float_back x h)
key_back (decimal neg m e) h = refl
key_back (timestamp x) h = refl
key_back (symbol (Sym.text s)) h = refl
key_back (symbol (Sym.id n)) h = refl
key_back (string s) h = refl
key_back (clob s) h = refl
key_back (blob s) h = refl

pub scalars-total : Total FineScalar scalars
scalars-total = of keys key_of keys-total (λ x y p q e. sym (key_back x p) ∙ ap back (keys-total.same (key_of x) (key_of y) tt tt e) ∙ key_back y q)

abbrev sym_in : Scalar → Sym
sym_in (null t) = Sym.id 0
sym_in (bool b) = Sym.id 0
sym_in (int n) = Sym.id 0
sym_in (float x) = Sym.id 0
sym_in (decimal neg m e) = Sym.id 0
sym_in (timestamp x) = Sym.id 0
sym_in (symbol s) = s
sym_in (string s) = Sym.id 0
sym_in (clob s) = Sym.id 0
sym_in (blob s) = Sym.id 0

pub syms-total : Total FineSym syms
syms-total = of scalars symbol scalars-total (λ s t p q e. ap sym_in (scalars-total.same (symbol s) (symbol t) p q e))

-- ---- a node with its head

names_total : Total (Maybe syms-total) (options syms)
names_total = options_total syms-total

notes-total : Total (All FineSym) (slice_cmp syms)
notes-total = lists_total syms-total

all-syms : (ss : List Sym) → FineSyms ss → All FineSym ss
all-syms [] h = tt
all-syms (s ∷ ss) h = (h.0, all-syms ss h.1)

maybe_name : (k : Frame) (o : Option Sym) → FineName k o → Maybe syms-total o
maybe_name Top none h = tt
maybe_name Top (some s) h = absurd h
maybe_name ListF none h = tt
maybe_name ListF (some s) h = absurd h
maybe_name Sexp none h = tt
maybe_name Sexp (some s) h = absurd h
maybe_name Struct none h = absurd h
maybe_name Struct (some s) h = h

-- five comparisons, one behind another
abbrev five : Ordering → Ordering → Ordering → Ordering → Ordering → Ordering
five a b c d w = ordering_then a (ordering_then b (ordering_then c (ordering_then d w)))

five_swap : (a a' b b' c c' d d' w w' : Ordering) → a' ≡ ordering_reverse a → b' ≡ ordering_reverse b → c' ≡ ordering_reverse c → d' ≡ ordering_reverse d → w' ≡ ordering_reverse w
    → five a' b' c' d' w' ≡ ordering_reverse (five a b c d w)
five_swap a a' b b' c c' d d' w w' p q r s t =
    then_swap a a' (ordering_then b (ordering_then c (ordering_then d w))) (ordering_then b' (ordering_then c' (ordering_then d' w'))) p
    (then_swap b b' (ordering_then c (ordering_then d w)) (ordering_then c' (ordering_then d' w')) q (then_swap c c' (ordering_then d w) (ordering_then d' w') r (then_swap d d' w w' s t)))

five_through : (a a' a'' b b' b'' c c' c'' d d' d'' w w' w'' : Ordering) → Through a a' a'' → Through b b' b'' → Through c c' c'' → Through d d' d'' → Through w w' w''
    → Through (five a b c d w) (five a' b' c' d' w') (five a'' b'' c'' d'' w'')
five_through a a' a'' b b' b'' c c' c'' d d' d'' w w' w'' p q r s t =
    through_then a a' a'' (ordering_then b (ordering_then c (ordering_then d w))) (ordering_then b' (ordering_then c' (ordering_then d' w'))) (ordering_then b'' (ordering_then c'' (ordering_then d'' w''))) p
    (through_then b b' b'' (ordering_then c (ordering_then d w)) (ordering_then c' (ordering_then d' w')) (ordering_then c'' (ordering_then d'' w'')) q
    (through_then c c' c'' (ordering_then d w) (ordering_then d' w') (ordering_then d'' w'') r (through_then d d' d'' w w' w'' s t)))

module _ (h : Head) (n : Node) (g : Head) (m : Node) where
  abbrev a₀ : Ordering
  a₀ = options syms h.0 g.0

  abbrev b₀ : Ordering
  b₀ = nat_cmp (kind_behind h.1 n) (kind_behind g.1 m)

  abbrev c₀ : Ordering
  c₀ = slice_cmp syms h.1 g.1

  abbrev d₀ : Ordering
  d₀ = nat_cmp (kind_of n) (kind_of m)

headed_swap : (h : Head) (n : Node) (g : Head) (m : Node) (w w' : Ordering) → w' ≡ ordering_reverse w → headed g m h n w' ≡ ordering_reverse (headed h n g m w)
headed_swap h n g m w w' e =
    five_swap (a₀ h n g m) (a₀ g m h n) (b₀ h n g m) (b₀ g m h n) (c₀ h n g m) (c₀ g m h n) (d₀ h n g m) (d₀ g m h n) w w'
    (names_total.swap h.0 g.0) (numbers-total.swap (kind_behind h.1 n) (kind_behind g.1 m)) (notes-total.swap h.1 g.1) (numbers-total.swap (kind_of n) (kind_of m)) e

headed_through : (h : Head) (n : Node) (g : Head) (m : Node) (f : Head) (l : Node) (w₁ w₂ w₃ : Ordering) → Through w₁ w₂ w₃
    → Through (headed h n g m w₁) (headed g m f l w₂) (headed h n f l w₃)
headed_through h n g m f l w₁ w₂ w₃ e =
    five_through (a₀ h n g m) (a₀ g m f l) (a₀ h n f l) (b₀ h n g m) (b₀ g m f l) (b₀ h n f l) (c₀ h n g m) (c₀ g m f l) (c₀ h n f l) (d₀ h n g m) (d₀ g m f l) (d₀ h n f l) w₁ w₂ w₃
    (names_total.through h.0 g.0 f.0) (numbers-total.through (kind_behind h.1 n) (kind_behind g.1 m) (kind_behind f.1 l)) (notes-total.through h.1 g.1 f.1) (numbers-total.through (kind_of n) (kind_of m) (kind_of l)) e

record Alike (h : Head) (n : Node) (g : Head) (m : Node) (w : Ordering) : Type 0 where
  name : options syms h.0 g.0 ≡ Equal
  notes : slice_cmp syms h.1 g.1 ≡ Equal
  kinds : kind_of n ≡ kind_of m
  inside : w ≡ Equal

headed_alike : (h : Head) (n : Node) (g : Head) (m : Node) (w : Ordering) → headed h n g m w ≡ Equal → Alike h n g m w
headed_alike h n g m w e =
    let a = both_equal (a₀ h n g m) (ordering_then (b₀ h n g m) (ordering_then (c₀ h n g m) (ordering_then (d₀ h n g m) w))) e in
    let b = both_equal (b₀ h n g m) (ordering_then (c₀ h n g m) (ordering_then (d₀ h n g m) w)) a.1 in
    let c = both_equal (c₀ h n g m) (ordering_then (d₀ h n g m) w) b.1 in
    let d = both_equal (d₀ h n g m) w c.1 in
    record { name = a.0; notes = c.0; kinds = exact_unsigned (kind_of n) (kind_of m) d.0; inside = d.1 }

-- ---- nodes
mutual
  unfolding contents nodes

  contents_swap : (x y : Node) → contents y x ≡ ordering_reverse (contents x y)
  contents_swap (scalar s) (scalar t) = scalars-total.swap s t
  contents_swap (scalar s) (nest g ms) = refl
  contents_swap (scalar s) marker = refl
  contents_swap (nest f ns) (scalar t) = refl
  contents_swap (nest f ns) (nest g ms) = nodes_swap ns ms
  contents_swap (nest f ns) marker = refl
  contents_swap marker (scalar t) = refl
  contents_swap marker (nest g ms) = refl
  contents_swap marker marker = refl

  nodes_swap : (x y : Nodes) → nodes y x ≡ ordering_reverse (nodes x y)
  nodes_swap nil nil = refl
  nodes_swap nil (more g m ms) = refl
  nodes_swap (more h n ns) nil = refl
  nodes_swap (more h n ns) (more g m ms) =
      then_swap (headed h n g m (contents n m)) (headed g m h n (contents m n)) (nodes ns ms) (nodes ms ns) (headed_swap h n g m (contents n m) (contents m n) (contents_swap n m)) (nodes_swap ns ms)

mutual
  unfolding contents nodes

  contents_through : (x y z : Node) → Through (contents x y) (contents y z) (contents x z)
  contents_through (scalar s) (scalar t) (scalar r) = scalars-total.through s t r
  contents_through (scalar s) (scalar t) (nest e ls) = through_less (scalars s t)
  contents_through (scalar s) (scalar t) marker = through_less (scalars s t)
  contents_through (scalar s) (nest g ms) (scalar r) = tt
  contents_through (scalar s) (nest g ms) (nest e ls) = less_through (nodes ms ls)
  contents_through (scalar s) (nest g ms) marker = refl
  contents_through (scalar s) marker (scalar r) = tt
  contents_through (scalar s) marker (nest e ls) = tt
  contents_through (scalar s) marker marker = refl
  contents_through (nest f ns) (scalar t) (scalar r) = greater_through (scalars t r)
  contents_through (nest f ns) (scalar t) (nest e ls) = tt
  contents_through (nest f ns) (scalar t) marker = tt
  contents_through (nest f ns) (nest g ms) (scalar r) = through_greater (nodes ns ms)
  contents_through (nest f ns) (nest g ms) (nest e ls) = nodes_through ns ms ls
  contents_through (nest f ns) (nest g ms) marker = through_less (nodes ns ms)
  contents_through (nest f ns) marker (scalar r) = tt
  contents_through (nest f ns) marker (nest e ls) = tt
  contents_through (nest f ns) marker marker = refl
  contents_through marker (scalar t) (scalar r) = greater_through (scalars t r)
  contents_through marker (scalar t) (nest e ls) = tt
  contents_through marker (scalar t) marker = tt
  contents_through marker (nest g ms) (scalar r) = refl
  contents_through marker (nest g ms) (nest e ls) = greater_through (nodes ms ls)
  contents_through marker (nest g ms) marker = tt
  contents_through marker marker (scalar r) = refl
  contents_through marker marker (nest e ls) = refl
  contents_through marker marker marker = refl

  nodes_through : (x y z : Nodes) → Through (nodes x y) (nodes y z) (nodes x z)
  nodes_through nil nil nil = refl
  nodes_through nil nil (more f l ls) = refl
  nodes_through nil (more g m ms) nil = tt
  nodes_through nil (more g m ms) (more f l ls) = less_through (ordering_then (headed g m f l (contents m l)) (nodes ms ls))
  nodes_through (more h n ns) nil nil = refl
  nodes_through (more h n ns) nil (more f l ls) = tt
  nodes_through (more h n ns) (more g m ms) nil = through_greater (ordering_then (headed h n g m (contents n m)) (nodes ns ms))
  nodes_through (more h n ns) (more g m ms) (more f l ls) =
      through_then (headed h n g m (contents n m)) (headed g m f l (contents m l)) (headed h n f l (contents n l)) (nodes ns ms) (nodes ms ls) (nodes ns ls)
      (headed_through h n g m f l (contents n m) (contents m l) (contents n l) (contents_through n m l)) (nodes_through ns ms ls)

untag : ℕ → Frame
untag n = if (eqb n 0) Top (if (eqb n 10) ListF (if (eqb n 11) Sexp Struct))

tag_back : (f : Frame) → untag (tag f) ≡ f
unfolding untag
tag_back Top = refl
tag_back ListF = refl
tag_back Sexp = refl
tag_back Struct = refl

tag_same : (f g : Frame) → tag f ≡ tag g → f ≡ g
tag_same f g e = sym (tag_back f) ∙ ap untag e ∙ tag_back g

mutual
  unfolding contents nodes Fine Fines

  contents_same : (x y : Node) (d d' : ℕ) (k k' : Frame) (ss ss' : List Sym) → Fine d k ss x → Fine d' k' ss' y → kind_of x ≡ kind_of y → contents x y ≡ Equal → x ≡ y
  contents_same (scalar s) (scalar t) d d' k k' ss ss' p q u e = ap scalar (scalars-total.same s t p q e)
  contents_same (scalar s) (nest g ms) d d' k k' ss ss' p q u e = cc
  contents_same (scalar s) marker d d' k k' ss ss' p q u e = cc
  contents_same (nest f ns) (scalar t) d d' k k' ss ss' p q u e = cc
  contents_same (nest f ns) (nest g ms) zero d' k k' ss ss' p q u e = absurd p
  contents_same (nest f ns) (nest g ms) (suc d) zero k k' ss ss' p q u e = absurd q
  contents_same (nest f ns) (nest g ms) (suc d) (suc d') k k' ss ss' p q u e =
      let a = tag_same f g u in
      let b = nodes_same ns ms d d' f g p.2 q.2 e in
      λ i. nest (a i) (b i)
  contents_same (nest f ns) marker d d' k k' ss ss' p q u e = cc
  contents_same marker (scalar t) d d' k k' ss ss' p q u e = cc
  contents_same marker (nest g ms) d d' k k' ss ss' p q u e = cc
  contents_same marker marker d d' k k' ss ss' p q u e = refl

  nodes_same : (x y : Nodes) (d d' : ℕ) (k k' : Frame) → Fines d k x → Fines d' k' y → nodes x y ≡ Equal → x ≡ y
  nodes_same nil nil d d' k k' p q e = refl
  nodes_same nil (more g m ms) d d' k k' p q e = cc
  nodes_same (more h n ns) nil d d' k k' p q e = cc
  nodes_same (more h n ns) (more g m ms) d d' k k' p q e =
      let b = both_equal (headed h n g m (contents n m)) (nodes ns ms) e in
      let a = headed_alike h n g m (contents n m) b.0 in
      let u : h.0 ≡ g.0 = names_total.same h.0 g.0 (maybe_name k h.0 p.0.name) (maybe_name k' g.0 q.0.name) a.name in
      let v : h.1 ≡ g.1 = notes-total.same h.1 g.1 (all-syms h.1 p.0.notes) (all-syms g.1 q.0.notes) a.notes in
      let w : n ≡ m = contents_same n m d d' k k' h.1 g.1 p.1 q.1 a.kinds a.inside in
      let r : ns ≡ ms = nodes_same ns ms d d' k k' p.2 q.2 b.1 in
      λ i. more (u i, v i) (w i) (r i)

-- the nodes of a body: every two, at every depth and of every frame
pub nodes_total : (d : ℕ) (k : Frame) → Total (Fines d k) nodes
nodes_total d k = record { swap = nodes_swap; through = nodes_through; same = λ x y. nodes_same x y d d k k }

-- ---- tapes
-- accepted tapes: equal exactly if their bytes are
pub tapes-total : Total Accepted tapes
unfolding tapes
tapes-total =
    of nodes nodes_of (nodes_total 64 Top)
    (λ t u p q e. sym (tape_back t p.bytes p.sound) ∙ ap tape (nodes_same (nodes_of t) (nodes_of u) 64 64 Top Top (tape_fine t p.bytes p.sound) (tape_fine u q.bytes q.sound) e) ∙ tape_back u q.bytes q.sound)

-- the same in single statements; antisymmetric and transitive it is on all tapes
pub tapes_exactly : (t u : List ℕ) → Accepted t → Accepted u → (tapes t u ≡ Equal → t ≡ u) × (t ≡ u → tapes t u ≡ Equal)
tapes_exactly = equal_exactly tapes-total

pub tapes_reflexive : (t : List ℕ) → tapes t t ≡ Equal
tapes_reflexive = reflexive tapes-total

pub tapes_antisymmetric : (t u : List ℕ) → tapes t u ≡ Less → tapes u t ≡ Greater
tapes_antisymmetric = antisymmetric tapes-total

pub tapes_transitive : (t u v : List ℕ) → tapes t u ≡ Less → tapes u v ≡ Less → tapes t v ≡ Less
tapes_transitive = transitive tapes-total
