-- 02's words on the order (A11), case by case: most by computation. Assumes nothing.
use Rattle.std.specs.Cmp.Lexicographic.{slice_cmp}
use Prim.Native.Nat.{ℕ, ◌<◌}
use mathlib.Core.Path.{◌≡◌, refl}
use mathlib.Core.Bool.{true, false}
use mathlib.Core.List.{List, [], ◌∷◌}
use mathlib.Core.Option.{Option, none, some}
use lib.IntN.{ℤ, pos, negsuc}
use lib.Ieee.{nan, inf, fin}
use Rattle.output.specs.Logic.{ascii}
use Rattle.text_rules.specs.Text.{Sym}
use Rattle.floats.specs.Value.{whole_of, up_to, magnitude, is_negative}
use Rattle.tape.specs.Tree.{Scalar, Node, Nodes, null, bool, int, float, decimal, timestamp, string, clob, blob, scalar, nest, marker, nil, more}
use Rattle.tape.specs.declared.Frame.TheVariants.{List as ListF, Struct}
use Rattle.std.specs.declared.cmp.Ordering.{Ordering}
use Rattle.std.specs.declared.cmp.Ordering.TheVariants.{Less, Equal, Greater}
use Rattle.order.specs.Order.{options, values, whole_value, key_of, scalars, syms, kind_of, headed, contents, nodes}
use Rattle.order.proofs.Combine.{reflexive, less_is, greater_is, options_total}
use Rattle.order.proofs.NodeOrder.{syms-total}

-- values without names and annotations, side by side
abbrev row : List Node → Nodes
row [] = nil
row (n ∷ ns) = more (none, []) n (row ns)

abbrev whole : ℕ → Node
whole n = scalar (int (pos n))

-- a field of a struct
abbrev field : Sym → ℕ → Node
field s n = nest Struct (more (some s, []) (whole n) nil)

-- a value with one annotation
abbrev noted : Sym → Node → Nodes
noted s n = more (none, s ∷ []) n nil

abbrev name : List ℕ → Sym
name s = Sym.text s

-- midnight of the first day of a year, with an offset and no fraction
abbrev midnight : ℕ → ℤ → Scalar
midnight y o = timestamp (record { precision = 3; year = y; month = 1; day = 1; hour = 0; minute = 0; second = 0; offset = o; digits = 0; fraction = 0 })

-- the year alone
abbrev year_of : ℕ → Scalar
year_of y = timestamp (record { precision = 0; year = y; month = 0; day = 0; hour = 0; minute = 0; second = 0; offset = pos 32767; digits = 0; fraction = 0 })

-- A proper beginning is less: of texts, of top-level nodes, in containers, of annotations. But children come before their number.
pub beginnings :
    (scalars (string (ascii "ab")) (string (ascii "abc")) ≡ Less)
    × (scalars (string (ascii "abc")) (string (ascii "b")) ≡ Less)
    × (nodes (row []) (row (whole 1 ∷ [])) ≡ Less)
    × (nodes (row (whole 1 ∷ whole 2 ∷ [])) (row (whole 1 ∷ [])) ≡ Greater)
    × (contents (nest ListF (row (whole 1 ∷ []))) (nest ListF (row (whole 1 ∷ whole 2 ∷ []))) ≡ Less)
    × (contents (nest ListF (row (whole 1 ∷ whole 1 ∷ whole 1 ∷ []))) (nest ListF (row (whole 2 ∷ []))) ≡ Less)
    × (slice_cmp syms (name (ascii "a") ∷ []) (name (ascii "a") ∷ name (ascii "b") ∷ []) ≡ Less)
unfolding key_of values contents nodes
beginnings = (refl, refl, refl, refl, refl, refl, refl)

-- nulls by type byte; false before true; ints by value; kinds by number
pub plain :
    (scalars (null 0) (null 12) ≡ Less)
    × (scalars (bool false) (bool true) ≡ Less)
    × (scalars (int (negsuc 0)) (int (pos 0)) ≡ Less)
    × (scalars (int (negsuc 1)) (int (negsuc 0)) ≡ Less)
    × (scalars (bool true) (int (negsuc 9)) ≡ Less)
    × (scalars (clob []) (string (ascii "z")) ≡ Greater)
    × (scalars (blob []) (clob (ascii "z")) ≡ Greater)
    × (scalars (blob (ascii "a")) (blob (ascii "b")) ≡ Less)
unfolding key_of values
plain = (refl, refl, refl, refl, refl, refl, refl, refl)

-- 1.00 before 1.0, for the smaller exponent; so for negative numbers; 2.0 behind both; -0 before 0, of one exponent; 0.0 before -0
pub decimal-cases :
    (scalars (decimal false 100 (negsuc 1)) (decimal false 10 (negsuc 0)) ≡ Less)
    × (scalars (decimal true 100 (negsuc 1)) (decimal true 10 (negsuc 0)) ≡ Less)
    × (scalars (decimal false 20 (negsuc 0)) (decimal false 100 (negsuc 1)) ≡ Greater)
    × (scalars (decimal true 20 (negsuc 0)) (decimal true 100 (negsuc 1)) ≡ Less)
    × (scalars (decimal true 0 (pos 0)) (decimal false 0 (pos 0)) ≡ Less)
    × (scalars (decimal false 0 (negsuc 0)) (decimal true 0 (pos 0)) ≡ Less)
    × (scalars (decimal false 18446744073709551615 (pos 0)) (decimal false 1 (pos 20)) ≡ Less)
unfolding key_of values
decimal-cases = (refl, refl, refl, refl, refl, refl, refl)

-- -inf, finite by value with -0 before 0, +inf, nan
pub float-cases :
    (scalars (float (inf true)) (float (fin true 1 (pos 53))) ≡ Less)
    × (scalars (float (fin true 1 (pos 53))) (float (fin true 15 (pos 0))) ≡ Less)
    × (scalars (float (fin true 1 (pos 0))) (float (fin true 0 (pos 0))) ≡ Less)
    × (scalars (float (fin true 0 (pos 0))) (float (fin false 0 (pos 0))) ≡ Less)
    × (scalars (float (fin false 0 (pos 0))) (float (fin false 1 (pos 0))) ≡ Less)
    × (scalars (float (fin false 15 (pos 0))) (float (fin false 1 (pos 4))) ≡ Less)
    × (scalars (float (fin false 1 (pos 53))) (float (inf false)) ≡ Less)
    × (scalars (float (inf false)) (float nan) ≡ Less)
    × (scalars (float nan) (float nan) ≡ Equal)
unfolding key_of values whole_value magnitude whole_of up_to is_negative
float-cases = (refl, refl, refl, refl, refl, refl, refl, refl, refl)

-- by precision first; then by year; by the offset as it is, unknown last
pub timestamp-cases :
    (scalars (year_of 2026) (midnight 1999 (pos 0)) ≡ Less)
    × (scalars (midnight 1999 (pos 60)) (midnight 2026 (negsuc 59)) ≡ Less)
    × (scalars (midnight 2026 (negsuc 59)) (midnight 2026 (pos 0)) ≡ Less)
    × (scalars (midnight 2026 (pos 1439)) (midnight 2026 (pos 32767)) ≡ Less)
unfolding key_of values
timestamp-cases = (refl, refl, refl, refl)

-- texts before identifiers, those by number; a struct's name before its value
pub name-cases :
    (syms (name (ascii "z")) (Sym.id 0) ≡ Less)
    × (syms (Sym.id 9) (Sym.id 10) ≡ Less)
    × (contents (field (name (ascii "a")) 2) (field (name (ascii "b")) 1) ≡ Less)
    × (contents (field (name (ascii "z")) 2) (field (Sym.id 0) 1) ≡ Less)
    × (contents (field (name (ascii "a")) 2) (field (name (ascii "a")) 1) ≡ Greater)
unfolding key_of values contents nodes
name-cases = (refl, refl, refl, refl, refl)

-- Annotations, then the value; an annotated null stands behind a string and before a marker and a blob.
pub note-cases :
    (nodes (noted (name (ascii "a")) (whole 2)) (noted (name (ascii "b")) (whole 1)) ≡ Less)
    × (nodes (noted (name (ascii "a")) (whole 2)) (noted (name (ascii "a")) (whole 1)) ≡ Greater)
    × (nodes (noted (name (ascii "a")) (scalar (null 0))) (row (scalar (string (ascii "z")) ∷ [])) ≡ Greater)
    × (nodes (noted (name (ascii "a")) (scalar (null 0))) (row (marker ∷ [])) ≡ Less)
    × (nodes (noted (name (ascii "a")) (scalar (null 0))) (row (scalar (blob []) ∷ [])) ≡ Less)
unfolding key_of values contents nodes
note-cases = (refl, refl, refl, refl, refl)

-- And in general: behind one name or none, an annotated value stands behind every value without annotations that is of a kind below 13, and before
-- every other: that is a blob or a marker.
module _ (o : Option Sym) (s : Sym) (ss : List Sym) (n m : Node) (w : Ordering) where
  same_names : options syms o o ≡ Equal
  same_names = reflexive (options_total syms-total) o

  pub annotated-behind : kind_of m < 13 → headed (o, s ∷ ss) n (o, []) m w ≡ Greater
  annotated-behind h = rw (same_names, greater_is 13 (kind_of m) h) refl

  pub annotated-before : 13 < kind_of m → headed (o, s ∷ ss) n (o, []) m w ≡ Less
  annotated-before h = rw (same_names, less_is 13 (kind_of m) h) refl
