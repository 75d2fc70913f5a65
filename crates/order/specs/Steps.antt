-- What the contracts of the comparison's parts name. Assumes nothing: these are definitions.
use Rattle.std.specs.Ordering.{nat_cmp, ordering_then}
use Rattle.std.specs.Cmp.Lexicographic.{slice_cmp}
use Rattle.std.specs.Prelude.{ℕ, zero, suc, ◌+◌, ◌-◌, ◌*◌, ◌<◌, ◌≤◌, ℤ, pos, negsuc, ◌≡◌, List, [], ◌∷◌, Bool, true, false, eqb, Float, length, get_or, take, drop}
use Rattle.numbers.specs.declared.timestamp.Timestamp.{Timestamp}
use Rattle.std.proofs.Math.Option.{Option, none, some}
use Rattle.floats.specs.Whole.{most_whole}
use Rattle.floats.specs.Value.{magnitude, is_negative}
use Rattle.output.specs.Logic.{if}
use Rattle.tape.specs.Bytes.{part, le_number, signed}
use Rattle.tape.specs.Tree.{Scalar, Node, null}
use Rattle.text_rules.specs.Text.{Sym}
use Rattle.tape.specs.Steps.{head_at, size_taken, problem_at}
use Rattle.tape.specs.declared.Frame.{Frame}
use Rattle.order.specs.declared.Side.{Side}
use Rattle.tape.specs.Fine.{Bytes}
use Rattle.tape.specs.Tape.{reading, syms_of, name_of, notes_of, head_of, scalar_of, walk}
use Rattle.std.specs.declared.cmp.Ordering.{Ordering}
use Rattle.std.specs.declared.cmp.Ordering.TheVariants.{Equal}
use Rattle.order.specs.Order.{options, Decimal, rank, or_zero, syms, kind_of, contents, nodes}

-- a signed number from -N on, as a natural number
abbrev pub over_by : ℕ → ℤ → ℕ
over_by N (pos m) = N + m
over_by N (negsuc m) = N - suc m

abbrev pub Low : ℕ → ℤ → Type 0
Low N (pos m) = Unit {0}
Low N (negsuc m) = m < N

pub record Biased (N : ℕ) (e : ℤ) (r : ℕ) : Type 0 where
  pub low : Low N e
  pub is : r ≡ over_by N e

-- naturals with signs
abbrev pub by_sign : Bool → Bool → ℕ → ℕ → Ordering
by_sign false false a b = nat_cmp a b
by_sign false true a b = nat_cmp (a + b) 0
by_sign true false a b = nat_cmp 0 (a + b)
by_sign true true a b = nat_cmp b a

-- the scalar that the bytes l start with
unfoldable pub scalar_in : List ℕ → Scalar
scalar_in l = reading (scalar_of l) (null 0) (λ s n. s)

-- a scalar stands at a place of a body that ends at e
pub record Leaf (s : List ℕ) (at e : ℕ) : Type 0 where
  pub within : at ≤ e
  pub room : e ≤ length s
  pub some : 0 < size_taken (scalar_of (part s at e))

-- A float as one number in the order of floats: -inf, negative whole numbers to -0, 0 and positive ones, +inf, nan.
abbrev pub spread : ℕ → Bool → ℕ → ℕ
spread zero s n = 0
spread (suc zero) true n = suc most_whole - n
spread (suc zero) false n = suc (suc most_whole) + n
spread (suc (suc zero)) s n = 3 + 2 * most_whole
spread (suc (suc (suc r))) s n = 4 + 2 * most_whole

unfoldable pub float_number : Float → ℕ
float_number x = spread (rank x) (is_negative x) (or_zero (magnitude x))

-- what the code reads of a node, from its place on: the number of w bytes j bytes behind the place
abbrev pub number_at : List ℕ → ℕ → ℕ → ℕ → ℕ
number_at s at w j = le_number w (drop (at + j) s)

abbrev pub decimal_at : List ℕ → ℕ → Decimal
decimal_at s at = (eqb (get_or s (at + 1) 0) 1, number_at s at 8 2, signed 32 (number_at s at 4 10))

abbrev pub text_at : List ℕ → ℕ → List ℕ
text_at s at = part s (at + 5) (at + 5 + number_at s at 4 1)

-- the fields of a timestamp from the offset on
abbrev pub late_of : Timestamp → List ℤ
late_of x = x.offset ∷ pos x.digits ∷ pos x.fraction ∷ []

-- ---- heads

-- the name of the child that the bytes l start with, if it has one
abbrev pub name_in : Frame → List ℕ → Option Sym
name_in k l = reading (name_of k l) none (λ a n. a)

-- c symbols that the bytes l start with
abbrev pub syms_in : ℕ → List ℕ → List Sym
syms_in c l = reading (syms_of c l) [] (λ ss n. ss)

-- the annotations that the bytes l start with
abbrev pub notes_in : List ℕ → List Sym
notes_in l = reading (notes_of l) [] (λ ss n. ss)

-- how many annotations stand at a place, and where they start
unfoldable pub notes_count : List ℕ → ℕ → ℕ
notes_count s at = if (eqb (get_or s at 0) 13) (get_or s (at + 1) 0) 0

unfoldable pub notes_start : List ℕ → ℕ → ℕ
notes_start s at = if (eqb (get_or s at 0) 13) (at + 2) at

-- c symbols stand at a place of a body that ends at e
pub record Symbols (c : ℕ) (s : List ℕ) (at e : ℕ) : Type 0 where
  pub within : at ≤ e
  pub room : e ≤ length s
  pub read : syms_of c (part s at e) ≡ some (syms_in c (part s at e), size_taken (syms_of c (part s at e)))

-- a value with or without annotations
pub record Notes (s : List ℕ) (at e : ℕ) : Type 0 where
  pub within : at < e
  pub room : e ≤ length s
  pub read : notes_of (part s at e) ≡ some (notes_in (part s at e), size_taken (notes_of (part s at e)))

-- a name, where children have one
pub record Named (k : Frame) (s : List ℕ) (at e : ℕ) : Type 0 where
  pub within : at ≤ e
  pub room : e ≤ length s
  pub read : name_of k (part s at e) ≡ some (name_in k (part s at e), size_taken (name_of k (part s at e)))

-- a child's head, and a value behind it
pub record Headed (k : Frame) (s : List ℕ) (at e : ℕ) : Type 0 where
  pub within : at + size_taken (head_of k (part s at e)) < e
  pub room : e ≤ length s
  pub read : head_of k (part s at e) ≡ some (head_at k (part s at e), size_taken (head_of k (part s at e)))

-- a comparison, and where it ended in both where it found no difference
pub record SideIs (w : Ordering) (x y : ℕ) (r : Side) : Type 0 where
  pub order : r.order ≡ w
  pub places : r.order ≡ Equal → (r.a ≡ x) × (r.b ≡ y)

-- names, then the bytes behind them (13, or the value's kind), then annotations
abbrev pub fronts : Frame → List ℕ → ℕ → ℕ → List ℕ → ℕ → ℕ → Ordering
fronts k s i e t j f =
    ordering_then (options syms (head_at k (part s i e)).0 (head_at k (part t j f)).0)
    (ordering_then (nat_cmp (get_or s (i + size_taken (name_of k (part s i e))) 0) (get_or t (j + size_taken (name_of k (part t j f))) 0)) (slice_cmp syms (head_at k (part s i e)).1 (head_at k (part t j f)).1))

-- ---- values and bodies

-- a value without a problem at a place of a body that ends at e
pub record ValueAt (d : ℕ) (s : List ℕ) (at e : ℕ) : Type 0 where
  pub within : at ≤ e
  pub room : e ≤ length s
  pub fine : problem_at d (part s at e) ≡ 0

-- a body without a problem
pub record Body (d : ℕ) (k : Frame) (s : List ℕ) (at e : ℕ) : Type 0 where
  pub within : at ≤ e
  pub room : e ≤ length s
  pub fine : (walk d k (part s at e)).1 ≡ 0

-- by kind, then by contents
unfoldable pub valued : Node → Node → Ordering
valued x y = ordering_then (nat_cmp (kind_of x) (kind_of y)) (contents x y)

-- ---- bytes that are equal in both tapes

-- From the places i and j on, n bytes are equal; they end within e and f.
pub record Shared (s : List ℕ) (i e : ℕ) (t : List ℕ) (j f n : ℕ) : Type 0 where
  pub left : i + n ≤ e
  pub right : j + n ≤ f
  pub bytes : take n (drop i s) ≡ take n (drop j t)

-- What is passed from i to r of a body: children that lie within the n bytes behind i. Another body that has these n bytes at its start has the
-- same children, so that what is left of both compares as both do.
pub record Passed (d : ℕ) (k : Frame) (s : List ℕ) (i e n r : ℕ) : Type 0 where
  pub least : i ≤ r
  pub most : r ≤ i + n
  pub left : Body d k s r e
  pub other : (t : List ℕ) (j f : ℕ) → Bytes t → Body d k t j f → Shared s i e t j f n → Body d k t (j + (r - i)) f
  pub same : (t : List ℕ) (j f : ℕ) → Bytes t → Body d k t j f → Shared s i e t j f n
      → nodes (walk d k (part s i e)).0 (walk d k (part t j f)).0 ≡ nodes (walk d k (part s r e)).0 (walk d k (part t (j + (r - i)) f)).0
