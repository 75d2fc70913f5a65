-- The fields of a struct, one after the other: where a field's name ends, and the name that stands there. Assumes nothing.
use Prim.Native.Nat.{ℕ, suc, ◌+◌, ◌-◌, ◌<◌, ◌≤◌}
use mathlib.Core.Path.{◌≡◌, refl, sym, ap, subst, ◌∙◌}
use mathlib.Core.List.{List, ◌∷◌, ◌++◌}
use mathlib.Core.Bool.{true}
use mathlib.Core.Option.{Option, none, some}
use native.Mathlib.Omega.{arith}
use native.Mathlib.Decide.{ℕ_discrete, dec_le}
use lib.ListN.{length, drop}
use lib.Seq.{length-take-le}
use Rattle.text_rules.specs.Text.{Sym}
use Rattle.tape.specs.Bytes.{part}
use Rattle.tape.specs.Tree.{Scalar, Head, Nodes, symbol, scalar, nil, more, size, encode_sym, encode_name, encode_head, encode}
use Rattle.tape.specs.Tape.{reading, kind, sym_of, name_of, notes_of, head_of, symbol_of, absent, leaf, Walked, walk}
use Rattle.tape.specs.Steps.{head_at, size_taken, size_is, size_at}
use Rattle.tape.specs.Fine.{Bytes}
use Rattle.tape.specs.declared.Frame.TheVariants.{Struct}
use Rattle.tape.proofs.Numbers.{bytes_drop, bytes_take}
use Rattle.tape.proofs.Parts.{part_length}
use Rattle.tape.proofs.Reading.{Sound, something, sym_sound, Long, long, sym_long}
use Rattle.tape.proofs.CodeReading.{sym_none, scalar-symbol, value-scalar}
use Rattle.tape.proofs.Walking.{walk_end}
use Rattle.tape.proofs.Turning.{Turn, head_here}
use Rattle.field_index.specs.Structs.{fields_from}
use Rattle.field_index.specs.IndexSteps.{children_in, Body}
use Rattle.field_index.proofs.StructLaws.{next, node, turning, next-is, size-turn, size_there}

-- a symbol of n bytes stands at the start of l, the name of a child with the head h
pub record NameHere (l : List ℕ) (h : Head) : Type 0 where
  pub it : Sym
  pub count : ℕ
  pub read : sym_of l ≡ some (it, count)
  pub name : h.0 ≡ some it

pub name_here : (l : List ℕ) (h : Head) (n : ℕ) → head_of Struct l ≡ some (h, n) → NameHere l h
unfolding head_of name_of
name_here l h n e = go (sym_of l) refl e
  where
    by : (x : Sym) (m : ℕ) → sym_of l ≡ some (x, m) → (o : Option (List Sym × ℕ)) → reading {B = Option (Head × ℕ)} o none (λ ss j. some ((some x, ss), m + j)) ≡ some (h, n) → NameHere l h
    by x m q none e = let y : ◌≡◌ {A = ℕ} 0 1 = cc in absurd (omega arith)
    by x m q (some (ss, j)) e = record { it = x; count = m; read = q; name = sym (ap (λ (o : Option (Head × ℕ)). reading {B = Option Sym} o none (λ g i. g.0)) e) }

    go : (o : Option (Sym × ℕ)) → sym_of l ≡ o
        → reading {B = Option (Head × ℕ)} (reading {B = Option (Option Sym × ℕ)} o none (λ s n. some (some s, n))) none (λ a n. reading (notes_of (drop n l)) none (λ ss m. some ((a, ss), n + m))) ≡ some (h, n) → NameHere l h
    go none q e = let y : ◌≡◌ {A = ℕ} 0 1 = cc in absurd (omega arith)
    go (some (x, m)) q e = by x m q (notes_of (drop m l)) e

-- a symbol takes as many bytes as a name as it takes as a value
pub symbol-size : (l : List ℕ) (x : Sym) (n : ℕ) → sym_of l ≡ some (x, n) → size_at l ≡ n
unfolding size_at symbol_of
symbol-size l x n e = ap size_is (value-scalar true l (other 10 (omega arith)) (other 11 (omega arith)) (other 12 (omega arith)) (other 14 (omega arith))
    ∙ ap (λ (o : Option (Scalar × ℕ)). reading o absent (λ s m. leaf (scalar s) m)) (scalar-symbol l six.0 six.1 ∙ ap (λ (o : Option (Sym × ℕ)). reading {B = Option (Scalar × ℕ)} o none (λ s m. some (symbol s, m))) e))
  where
    six : (6 ≤ kind l) × (kind l ≤ 7)
    six = go (ℕ_discrete (kind l) 6) (ℕ_discrete (kind l) 7)
      where
        go : Dec (kind l ≡ 6) → Dec (kind l ≡ 7) → (6 ≤ kind l) × (kind l ≤ 7)
        go (yes p) q = (omega arith, omega arith)
        go (no p) (yes q) = (omega arith, omega arith)
        go (no p) (no q) = let y = sym (sym_none l p q) ∙ e in let z : ◌≡◌ {A = ℕ} 0 1 = cc in absurd (omega arith)

    other : (k : ℕ) → 7 < k → kind l ≡ k → ⊥
    other k h q = let s = six in omega arith

module _ (s : List ℕ) (at e : ℕ) (b : Bytes s) (h : at < e) (i : e ≤ length s) (z : (walk 65 Struct (part s at e)).1 ≡ 0) where
  -- the name of the field at the place
  pub its_name : NameHere (part s at e) (head_at Struct (part s at e))
  its_name = name_here (part s at e) (head_at Struct (part s at e)) (size_taken (head_of Struct (part s at e))) (head_here 65 Struct s at e (λ y. omega arith) h i z)

  pub name-size : size_at (part s at e) ≡ its_name.count
  name-size = symbol-size (part s at e) its_name.it its_name.count its_name.read

  pub name_there : (0 < size_at (part s at e)) × (at + size_at (part s at e) ≤ e)
  name_there = go (subst Long its_name.read (sym_long (part s at e))) (subst (Sound encode_sym (part s at e)) its_name.read (sym_sound (part s at e)))
    where
      go : Long (some (its_name.it, its_name.count)) → Sound encode_sym (part s at e) (some (its_name.it, its_name.count)) → (0 < size_at (part s at e)) × (at + size_at (part s at e) ≤ e)
      go (long l) (something m f) =
          let d = name-size in
          let p = part_length s at e i in
          (omega arith, omega arith)

  pub name_long : length (encode_name (head_at Struct (part s at e)).0) ≡ size_at (part s at e)
  unfolding encode_name
  name_long = ap (λ (a : Option Sym). length (encode_name a)) its_name.name ∙ go (subst (Sound encode_sym (part s at e)) its_name.read (sym_sound (part s at e))) ∙ sym name-size
    where
      go : Sound encode_sym (part s at e) (some (its_name.it, its_name.count)) → length (encode_sym its_name.it) ≡ its_name.count
      go (something m f) = ap length (f (bytes_take (e - at) (drop at s) (bytes_drop at s b))) ∙ length-take-le its_name.count (part s at e) m

  pub fields-turn : fields_from at (walk 65 Struct (part s at e)).0
      ≡ record { name = at; value = at + size_at (part s at e) } ∷ fields_from (next Struct s at e b h i z) (walk 65 Struct (part s (next Struct s at e b h i z) e)).0
  unfolding fields_from
  fields-turn =
      ap (fields_from at) (turning Struct s at e b h i z).nodes
      ∙ ap (λ (n : ℕ). record { name = at; value = at + n } ∷ fields_from (at + length (encode_head (head_at Struct (part s at e)) ++ encode (node Struct s at e b h i z))) (walk 65 Struct (part s (next Struct s at e b h i z) e)).0) name_long
      ∙ ap (λ (p : ℕ). record { name = at; value = at + size_at (part s at e) } ∷ fields_from p (walk 65 Struct (part s (next Struct s at e b h i z) e)).0) (next-is Struct s at e b h i z)

pub fields-length : (at : ℕ) (ns : Nodes) → length (fields_from at ns) ≡ size ns
unfolding fields_from size
fields-length at nil = refl
fields-length at (more h n ns) = ap suc (fields-length (at + length (encode_head h ++ encode n)) ns)

-- ---- a turn over the fields of a body

module _ (t : List ℕ) (at e : ℕ) (b : Body t at e) (h : at < e) where
  -- where the value of the field stands, and where the field ends
  abbrev pub value_at : ℕ
  value_at = at + size_taken (head_of Struct (part t at e))

  abbrev pub next_at : ℕ
  next_at = value_at + size_at (part t value_at e)

  pub its_turn : Turn 65 Struct t at e value_at next_at
  its_turn = turning Struct t at e b.bytes h b.inside b.fine

  pub body_next : Body t next_at e
  body_next = record { bytes = b.bytes; ordered = its_turn.behind; inside = b.inside; fine = its_turn.fine }

  pub its_size : 0 < size_at (part t value_at e)
  its_size = size_there Struct t at e b.bytes h b.inside b.fine

  pub one_less : size (children_in t at e) ≡ suc (size (children_in t next_at e))
  one_less = size-turn Struct t at e b.bytes h b.inside b.fine

  -- the place that the code works out
  pub next-by : (v n : ℕ) → v ≡ value_at → n ≡ size_at (part t v e) → v + n ≡ next_at
  next-by v n p q = ap (λ (m : ℕ). v + m) q ∙ ap (λ (w : ℕ). w + size_at (part t w e)) p

-- nothing is left at the end
pub none_left : (t : List ℕ) (at e : ℕ) → Body t at e → e ≤ at → children_in t at e ≡ nil
none_left t at e b h = ap (λ (w : Walked). w.0) (walk_end Struct 65 (part t at e) (λ y. omega arith) (let n = part_length t at e b.inside in omega arith))

pub none-size : (t : List ℕ) (at e : ℕ) → Body t at e → e ≤ at → size (children_in t at e) ≡ 0
unfolding size
none-size t at e b h = ap size (none_left t at e b h)

-- and something before it
pub some_left : (t : List ℕ) (at e : ℕ) → Body t at e → 0 < size (children_in t at e) → at < e
some_left t at e b h = go (dec_le e at)
  where
    go : Dec (e ≤ at) → at < e
    go (yes g) = let z = none-size t at e b g in absurd (omega arith)
    go (no g) = omega arith
