-- Names, annotations and heads at a place. Assumes nothing.
use Rattle.std.specs.Ordering.{nat_cmp, ordering_then}
use Rattle.std.specs.Cmp.Lexicographic.{slice_cmp}
use Prim.Native.Nat.{ℕ, zero, suc, ◌+◌, ◌-◌, ◌<◌, ◌≤◌, min}
use mathlib.Core.Path.{◌≡◌, refl, sym, ap, ◌∙◌}
use mathlib.Core.List.{List, [], ◌∷◌}
use mathlib.Core.Bool.{Bool, true, false}
use mathlib.Core.Option.{Option, none, some}
use native.Mathlib.Omega.{arith}
use native.Mathlib.Decide.{dec_le}
use borrow.Author.Tests.{eqb-true, eqb-false}
use lib.Dec.{eqb}
use lib.ListN.{length, get_or, drop}
use Rattle.text_rules.specs.Text.{Sym}
use Rattle.tape.specs.Bytes.{part}
use Rattle.tape.specs.Tree.{Scalar, Head, symbol, null, encode_scalar}
use Rattle.tape.specs.Tape.{reading, kind, sym_of, syms_of, name_of, notes_of, head_of, symbol_of, scalar_of}
use Rattle.tape.specs.Steps.{place_of, head_at, size_taken}
use Rattle.tape.specs.declared.Frame.{Frame}
use Rattle.tape.specs.declared.Frame.TheVariants.{Top, List as ListF, Sexp, Struct}
use Rattle.tape.proofs.Parts.{part-drop, part-first, part_byte, part_length}
use Rattle.tape.proofs.Reading.{Long, long, sym_long, scalar_sound}
use Rattle.tape.proofs.CodeReading.{sym_none, scalar-symbol, place-within, notes-none, notes_few, notes-many, notes-some, notes_short}
use Rattle.std.specs.declared.cmp.Ordering.TheVariants.{Less, Equal, Greater}
use Rattle.order.specs.Order.{options, scalars, syms}
use Rattle.order.proofs.Combine.{Told, below, equal, over, tell, less_is, equal_is, greater_is}
use Rattle.order.specs.Steps.{scalar_in, Leaf, name_in, syms_in, notes_in, notes_count, notes_start, Symbols, Notes, Named, Headed}

-- the same was read
pub both : {A : Type 0} {a b : A} {n m : ℕ} → ◌≡◌ {A = Option (A × ℕ)} (some (a, n)) (some (b, m)) → (a ≡ b) × (n ≡ m)
both {A} {a} e = (ap (λ (o : Option (A × ℕ)). reading o a (λ v i. v)) e, ap (λ (o : Option (A × ℕ)). reading o 0 (λ v i. i)) e)

pub unsome : {A X : Type 0} {a : A} → ◌≡◌ {A = Option A} none (some a) → X
unsome e = let y : ◌≡◌ {A = ℕ} 0 1 = cc in absurd (omega arith)

-- ---- a symbol is a scalar

pub sym-scalar : (l : List ℕ) (x : Sym) (n : ℕ) → sym_of l ≡ some (x, n) → scalar_of l ≡ some (symbol x, n)
unfolding symbol_of
sym-scalar l x n r = kinds (eqb (kind l) 6) (eqb (kind l) 7) refl refl
  where
    on : Option (Sym × ℕ) → Option (Scalar × ℕ)
    on o = reading o none (λ s n. some (symbol s, n))

    kinds : (t u : Bool) → eqb (kind l) 6 ≡ t → eqb (kind l) 7 ≡ u → scalar_of l ≡ some (symbol x, n)
    kinds true u p q = let k : kind l ≡ 6 = eqb-true _ _ p in scalar-symbol l (omega arith) (omega arith) ∙ ap on r
    kinds false true p q = let k : kind l ≡ 7 = eqb-true _ _ q in scalar-symbol l (omega arith) (omega arith) ∙ ap on r
    kinds false false p q = unsome (sym (sym_none l (eqb-false _ _ p) (eqb-false _ _ q)) ∙ r)

longer : (l : List ℕ) (x : Sym) (n : ℕ) → sym_of l ≡ some (x, n) → 0 < n
longer l x n r = go (sym_of l) (sym_long l) r
  where
    go : (o : Option (Sym × ℕ)) → Long o → o ≡ some (x, n) → 0 < n
    go none t r = unsome r
    go (some (y, m)) (long h) r = let e : m ≡ n = (both r).1 in omega arith

-- a symbol at a place
pub record SymHere (s : List ℕ) (at e : ℕ) (x : Sym) (n : ℕ) : Type 0 where
  pub leaf : Leaf s at e
  pub is : scalar_in (part s at e) ≡ symbol x
  pub size : size_taken (scalar_of (part s at e)) ≡ n
  pub within : at + n ≤ e

pub sym_here : (s : List ℕ) (at e : ℕ) → at ≤ e → e ≤ length s → (x : Sym) (n : ℕ) → sym_of (part s at e) ≡ some (x, n) → SymHere s at e x n
unfolding scalar_in
sym_here s at e h i x n r =
    let q = sym-scalar (part s at e) x n r in
    let z = longer (part s at e) x n r in
    let t : size_taken (scalar_of (part s at e)) ≡ n = ap (λ (o : Option (Scalar × ℕ)). size_taken o) q in
    record {
      leaf = record { within = h; room = i; some = omega arith };
      is = ap (λ (o : Option (Scalar × ℕ)). reading o (null 0) (λ s n. s)) q;
      size = t;
      within = (place-within encode_scalar s at e (at + n) (scalar_of (part s at e)) h i (scalar_sound (part s at e)) (ap (place_of at) q)).1;
    }

-- where the scalar at a place ends
pub leaf_end : (s : List ℕ) (at e : ℕ) → Leaf s at e → at + size_taken (scalar_of (part s at e)) ≤ e
leaf_end s at e g = go (scalar_of (part s at e)) refl
  where
    go : (o : Option (Scalar × ℕ)) → scalar_of (part s at e) ≡ o → at + size_taken o ≤ e
    go none q = let h = g.within in omega arith
    go (some (x, n)) q = (place-within encode_scalar s at e (at + n) (scalar_of (part s at e)) g.within g.room (scalar_sound (part s at e)) (ap (place_of at) q)).1

-- ---- several symbols

-- the first of them, and the others
pub record Turn (c : ℕ) (s : List ℕ) (at e : ℕ) : Type 0 where
  pub head : Sym
  pub leaf : Leaf s at e
  pub is : scalar_in (part s at e) ≡ symbol head
  pub all : syms_in c (part s at e) ≡ head ∷ syms_in (c - 1) (part s (at + size_taken (scalar_of (part s at e))) e)
  pub next : Symbols (c - 1) s (at + size_taken (scalar_of (part s at e))) e
  pub ends : at + size_taken (syms_of c (part s at e)) ≡ at + size_taken (scalar_of (part s at e)) + size_taken (syms_of (c - 1) (part s (at + size_taken (scalar_of (part s at e))) e))

pub symbols_turn : (c : ℕ) (s : List ℕ) (at e : ℕ) → Symbols c s at e → 0 < c → Turn c s at e
unfolding syms_of
symbols_turn zero s at e g h = absurd (omega arith)
symbols_turn (suc c) s at e g h = first (sym_of (part s at e)) refl g.read
  where
    l : List ℕ
    l = part s at e

    rest : Sym → ℕ → Option (List Sym × ℕ) → Option (List Sym × ℕ)
    rest x n o = reading o none (λ ss m. some (x ∷ ss, n + m))

    step : Option (Sym × ℕ) → Option (List Sym × ℕ)
    step o = reading o none (λ x n. rest x n (syms_of c (drop n l)))

    second : (x : Sym) (n : ℕ) → sym_of l ≡ some (x, n) → (o : Option (List Sym × ℕ)) → syms_of c (drop n l) ≡ o → rest x n o ≡ some (syms_in (suc c) l, size_taken (syms_of (suc c) l)) → Turn (suc c) s at e
    second x n q none p r = unsome r
    second x n q (some (ss, m)) p r =
        let y = sym_here s at e g.within g.room x n q in
        let t = y.size in
        let place : at + size_taken (scalar_of l) ≡ at + n = omega arith in
        let tail : part s (at + size_taken (scalar_of l)) e ≡ drop n l = ap (λ (i : ℕ). part s i e) place ∙ sym (part-drop s at e n) in
        let less : suc c - 1 ≡ c = omega arith in
        let got : syms_of (suc c - 1) (part s (at + size_taken (scalar_of l)) e) ≡ some (ss, m) = ap (λ (i : ℕ). syms_of i (part s (at + size_taken (scalar_of l)) e)) less ∙ ap (syms_of c) tail ∙ p in
        let a : x ∷ ss ≡ syms_in (suc c) l = (both r).0 in
        let b : n + m ≡ size_taken (syms_of (suc c) l) = (both r).1 in
        let us : syms_in (suc c - 1) (part s (at + size_taken (scalar_of l)) e) ≡ ss = ap (λ (o : Option (List Sym × ℕ)). reading o [] (λ ss n. ss)) got in
        let ms : size_taken (syms_of (suc c - 1) (part s (at + size_taken (scalar_of l)) e)) ≡ m = ap (λ (o : Option (List Sym × ℕ)). size_taken o) got in
        let w = y.within in
        record {
          head = x;
          leaf = y.leaf;
          is = y.is;
          all = sym a ∙ ap (λ (ts : List Sym). x ∷ ts) (sym us);
          next = record { within = omega arith; room = g.room; read = got ∙ ap (λ (ts : List Sym). some (ts, m)) (sym us) ∙ ap (λ (i : ℕ). some (syms_in (suc c - 1) (part s (at + size_taken (scalar_of l)) e), i)) (sym ms) };
          ends = omega arith;
        }

    first : (o : Option (Sym × ℕ)) → sym_of l ≡ o → step o ≡ some (syms_in (suc c) l, size_taken (syms_of (suc c) l)) → Turn (suc c) s at e
    first none q r = unsome r
    first (some (x, n)) q r = second x n q (syms_of c (drop n l)) refl r

pub symbols_none : (c : ℕ) (l : List ℕ) → c ≡ 0 → (syms_in c l ≡ []) × (size_taken (syms_of c l) ≡ 0)
unfolding syms_of
symbols_none c l e = (ap (λ (i : ℕ). syms_in i l) e, ap (λ (i : ℕ). size_taken (syms_of i l)) e)

-- two lists of symbols
module _ (c d : ℕ) (s t : List ℕ) (x e y f : ℕ) (g : Symbols c s x e) (h : Symbols d t y f) where
  pub syms_longer : 0 < c → d ≡ 0 → slice_cmp syms (syms_in c (part s x e)) (syms_in d (part t y f)) ≡ Greater
  syms_longer p q = rw ((symbols_turn c s x e g p).all, (symbols_none d (part t y f) q).0)

  pub syms_shorter : c ≡ 0 → 0 < d → slice_cmp syms (syms_in c (part s x e)) (syms_in d (part t y f)) ≡ Less
  syms_shorter p q = rw ((symbols_none c (part s x e) p).0, (symbols_turn d t y f h q).all)

  pub syms-same : c ≡ 0 → d ≡ 0 → slice_cmp syms (syms_in c (part s x e)) (syms_in d (part t y f)) ≡ Equal
  syms-same p q = rw ((symbols_none c (part s x e) p).0, (symbols_none d (part t y f) q).0)

  abbrev x' : ℕ
  x' = x + size_taken (scalar_of (part s x e))

  abbrev y' : ℕ
  y' = y + size_taken (scalar_of (part t y f))

  pub syms-both : 0 < c → 0 < d
      → slice_cmp syms (syms_in c (part s x e)) (syms_in d (part t y f)) ≡ ordering_then (scalars (scalar_in (part s x e)) (scalar_in (part t y f))) (slice_cmp syms (syms_in (c - 1) (part s x' e)) (syms_in (d - 1) (part t y' f)))
  syms-both p q =
      let u = symbols_turn c s x e g p in
      let v = symbols_turn d t y f h q in
      rw (u.all, v.all, u.is, v.is) refl

-- at the end of the lesser list the numbers of symbols decide
pub syms_counted : (m n k : ℕ) (s t : List ℕ) (x e y f : ℕ) → Symbols (m - k) s x e → Symbols (n - k) t y f → k ≡ min m n
    → slice_cmp syms (syms_in (m - k) (part s x e)) (syms_in (n - k) (part t y f)) ≡ nat_cmp m n
syms_counted m n k s t x e y f g h a = go (tell m n)
  where
    go : Told m n → slice_cmp syms (syms_in (m - k) (part s x e)) (syms_in (n - k) (part t y f)) ≡ nat_cmp m n
    go (below l) = syms_shorter (m - k) (n - k) s t x e y f g h (omega arith) (omega arith) ∙ sym (less_is m n l)
    go (equal l) = syms-same (m - k) (n - k) s t x e y f g h (omega arith) (omega arith) ∙ sym (equal_is m n l)
    go (over l) = syms_longer (m - k) (n - k) s t x e y f g h (omega arith) (omega arith) ∙ sym (greater_is m n l)

-- ---- names

-- in a struct
pub name-sym : (s : List ℕ) (at e : ℕ) → Named Struct s at e → (x : Sym) × (SymHere s at e x (size_taken (name_of Struct (part s at e)))) × (name_in Struct (part s at e) ≡ some x)
unfolding name_of
name-sym s at e g = go (sym_of (part s at e)) refl g.read
  where
    on : Option (Sym × ℕ) → Option (Option Sym × ℕ)
    on o = reading o none (λ x n. some (some x, n))

    go : (o : Option (Sym × ℕ)) → sym_of (part s at e) ≡ o → on o ≡ some (name_in Struct (part s at e), size_taken (name_of Struct (part s at e)))
        → (x : Sym) × (SymHere s at e x (size_taken (name_of Struct (part s at e)))) × (name_in Struct (part s at e) ≡ some x)
    go none q r = unsome r
    go (some (x, n)) q r = (x, sym_here s at e g.within g.room x (size_taken (name_of Struct (part s at e))) (q ∙ ap (λ (i : ℕ). some (x, i)) (both r).1), sym (both r).0)

pub named_order : (s t : List ℕ) (i e j f : ℕ) → Named Struct s i e → Named Struct t j f
    → options syms (name_in Struct (part s i e)) (name_in Struct (part t j f)) ≡ scalars (scalar_in (part s i e)) (scalar_in (part t j f))
named_order s t i e j f g h =
    let u = name-sym s i e g in
    let v = name-sym t j f h in
    rw (u.2, v.2, u.1.is, v.1.is) refl

-- ---- annotations

pub record NotesHere (s : List ℕ) (at e : ℕ) : Type 0 where
  pub symbols : Symbols (notes_count s at) s (notes_start s at) e
  pub notes : syms_in (notes_count s at) (part s (notes_start s at) e) ≡ notes_in (part s at e)
  pub ends : notes_start s at + size_taken (syms_of (notes_count s at) (part s (notes_start s at) e)) ≡ at + size_taken (notes_of (part s at e))
  -- the byte at the place is 13 exactly if there are annotations
  pub marked : get_or s at 0 ≡ 13 → (0 < notes_count s at) × (at + 2 ≤ e)

pub notes_here : (s : List ℕ) (at e : ℕ) → Notes s at e → NotesHere s at e
unfolding notes_of notes_count notes_start syms_of
notes_here s at e g = by (eqb (get_or s at 0) 13) refl
  where
    l : List ℕ
    l = part s at e

    first : kind l ≡ get_or s at 0
    first = part-first s at e g.within

    len : length l ≡ e - at
    len = part_length s at e g.room

    by : (b : Bool) → eqb (get_or s at 0) 13 ≡ b → NotesHere s at e
    by false p =
        let n : get_or s at 0 ≡ 13 → ⊥ = eqb-false _ _ p in
        let r : notes_of l ≡ some ([], 0) = notes-none l (λ z. n (sym first ∙ z)) in
        let c : notes_count s at ≡ 0 = rw p refl in
        let st : notes_start s at ≡ at = rw p refl in
        let w = g.within in
        let none_in : notes_in l ≡ [] = ap (λ (o : Option (List Sym × ℕ)). reading o [] (λ ss n. ss)) r in
        let none-taken : size_taken (notes_of l) ≡ 0 = ap (λ (o : Option (List Sym × ℕ)). size_taken o) r in
        let z = symbols_none (notes_count s at) (part s (notes_start s at) e) c in
        let zt = z.1 in
        record {
          symbols = record { within = omega arith; room = g.room; read = ap (λ (i : ℕ). syms_of i (part s (notes_start s at) e)) c ∙ ap (λ (ss : List Sym). some (ss, 0)) (sym z.0) ∙ ap (λ (i : ℕ). some (syms_in (notes_count s at) (part s (notes_start s at) e), i)) (sym z.1) };
          notes = z.0 ∙ sym none_in;
          ends = omega arith;
          marked = λ h. absurd (n h);
        }
    by true p =
        let k : kind l ≡ 13 = first ∙ eqb-true _ _ p in
        let m = two (decide 2) k in
        let w : at + 2 ≤ e = let n = len in omega arith in
        let b : get_or l 1 0 ≡ get_or s (at + 1) 0 = part_byte s at e 1 (omega arith) in
        let c : notes_count s at ≡ get_or l 1 0 = rw p (sym b) in
        let st : notes_start s at ≡ at + 2 = rw p refl in
        let least = few (dec_le 1 (get_or l 1 0)) k in
        let most = many (dec_le (get_or l 1 0) 16) k in
        let r = notes-some l k least most in
        got c st w (omega arith) (syms_of (get_or l 1 0) (drop 2 l)) refl (sym r ∙ g.read)
      where
        decide : (n : ℕ) → Dec (n ≤ length l)
        decide n = dec_le n (length l)

        two : Dec (2 ≤ length l) → kind l ≡ 13 → 2 ≤ length l
        two (yes h) k = h
        two (no h) k = unsome (sym (notes_short l k (omega arith)) ∙ g.read)

        few : Dec (1 ≤ get_or l 1 0) → kind l ≡ 13 → 1 ≤ get_or l 1 0
        few (yes h) k = h
        few (no h) k = unsome (sym (notes_few l k (omega arith)) ∙ g.read)

        many : Dec (get_or l 1 0 ≤ 16) → kind l ≡ 13 → get_or l 1 0 ≤ 16
        many (yes h) k = h
        many (no h) k = unsome (sym (notes-many l k (omega arith)) ∙ g.read)

        got : notes_count s at ≡ get_or l 1 0 → notes_start s at ≡ at + 2 → at + 2 ≤ e → 0 < notes_count s at → (o : Option (List Sym × ℕ)) → syms_of (get_or l 1 0) (drop 2 l) ≡ o
            → reading {B = Option (List Sym × ℕ)} o none (λ ss n. some (ss, 2 + n)) ≡ some (notes_in l, size_taken (notes_of l)) → NotesHere s at e
        got c st w pz none q r = unsome r
        got c st w pz (some (ss, n)) q r =
            let here : syms_of (notes_count s at) (part s (notes_start s at) e) ≡ some (ss, n) = ap (λ (i : ℕ). syms_of i (part s (notes_start s at) e)) c ∙ ap (λ (i : ℕ). syms_of (get_or l 1 0) (part s i e)) st ∙ ap (syms_of (get_or l 1 0)) (sym (part-drop s at e 2)) ∙ q in
            let si : syms_in (notes_count s at) (part s (notes_start s at) e) ≡ ss = ap (λ (o : Option (List Sym × ℕ)). reading o [] (λ ss n. ss)) here in
            let ti : size_taken (syms_of (notes_count s at) (part s (notes_start s at) e)) ≡ n = ap (λ (o : Option (List Sym × ℕ)). size_taken o) here in
            let tn : 2 + n ≡ size_taken (notes_of l) = (both r).1 in
            record {
              symbols = record { within = omega arith; room = g.room; read = here ∙ ap (λ (ts : List Sym). some (ts, n)) (sym si) ∙ ap (λ (i : ℕ). some (syms_in (notes_count s at) (part s (notes_start s at) e), i)) (sym ti) };
              notes = si ∙ (both r).0;
              ends = omega arith;
              marked = λ h. (pz, w);
            }

-- ---- heads

pub record HeadHere (k : Frame) (s : List ℕ) (at e : ℕ) : Type 0 where
  pub named : Named k s at e
  pub name : name_in k (part s at e) ≡ (head_at k (part s at e)).0
  pub notes : Notes s (at + size_taken (name_of k (part s at e))) e
  pub list : notes_in (part s (at + size_taken (name_of k (part s at e))) e) ≡ (head_at k (part s at e)).1
  pub ends : at + size_taken (name_of k (part s at e)) + size_taken (notes_of (part s (at + size_taken (name_of k (part s at e))) e)) ≡ at + size_taken (head_of k (part s at e))

pub head_parts : (k : Frame) (s : List ℕ) (at e : ℕ) → Headed k s at e → HeadHere k s at e
unfolding head_of
head_parts k s at e g = first (name_of k (part s at e)) refl g.read
  where
    l : List ℕ
    l = part s at e

    rest : Option Sym → ℕ → Option (List Sym × ℕ) → Option (Head × ℕ)
    rest a n o = reading o none (λ ss m. some ((a, ss), n + m))

    second : (a : Option Sym) (n : ℕ) → name_of k l ≡ some (a, n) → (o : Option (List Sym × ℕ)) → notes_of (drop n l) ≡ o → rest a n o ≡ some (head_at k l, size_taken (head_of k l)) → HeadHere k s at e
    second a n q none p r = unsome r
    second a n q (some (ss, m)) p r =
        let t : size_taken (name_of k l) ≡ n = ap (λ (o : Option (Option Sym × ℕ)). size_taken o) q in
        let u : name_in k l ≡ a = ap (λ (o : Option (Option Sym × ℕ)). reading {B = Option Sym} o none (λ a n. a)) q in
        let place : at + size_taken (name_of k l) ≡ at + n = omega arith in
        let tail : notes_of (part s (at + size_taken (name_of k l)) e) ≡ some (ss, m) = ap (λ (i : ℕ). notes_of (part s i e)) place ∙ ap notes_of (sym (part-drop s at e n)) ∙ p in
        let si : notes_in (part s (at + size_taken (name_of k l)) e) ≡ ss = ap (λ (o : Option (List Sym × ℕ)). reading o [] (λ ss n. ss)) tail in
        let ti : size_taken (notes_of (part s (at + size_taken (name_of k l)) e)) ≡ m = ap (λ (o : Option (List Sym × ℕ)). size_taken o) tail in
        let hd : (a, ss) ≡ head_at k l = (both r).0 in
        let sz : n + m ≡ size_taken (head_of k l) = (both r).1 in
        let w = g.within in
        record {
          named = record { within = omega arith; room = g.room; read = q ∙ ap (λ (b : Option Sym). some (b, n)) (sym u) ∙ ap (λ (i : ℕ). some (name_in k l, i)) (sym t) };
          name = u ∙ ap (λ (h : Head). h.0) hd;
          notes = record { within = omega arith; room = g.room; read = tail ∙ ap (λ (ts : List Sym). some (ts, m)) (sym si) ∙ ap (λ (i : ℕ). some (notes_in (part s (at + size_taken (name_of k l)) e), i)) (sym ti) };
          list = si ∙ ap (λ (h : Head). h.1) hd;
          ends = omega arith;
        }

    first : (o : Option (Option Sym × ℕ)) → name_of k l ≡ o → reading {B = Option (Head × ℕ)} o none (λ a n. rest a n (notes_of (drop n l))) ≡ some (head_at k l, size_taken (head_of k l)) → HeadHere k s at e
    first none q r = unsome r
    first (some (a, n)) q r = second a n q (notes_of (drop n l)) refl r

-- no names elsewhere
pub nameless : (k : Frame) (l : List ℕ) → (k ≡ Struct → ⊥) → name_of k l ≡ some (none, 0)
unfolding name_of
nameless Top l n = refl
nameless ListF l n = refl
nameless Sexp l n = refl
nameless Struct l n = absurd (n refl)
