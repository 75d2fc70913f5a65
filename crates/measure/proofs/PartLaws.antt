-- The lengths of names, annotations and scalars on a tape. Assumes nothing.
use Prim.Native.Nat.{ℕ, zero, suc, ◌+◌, ◌-◌, ◌<◌, ◌≤◌}
use mathlib.Core.Path.{◌≡◌, refl, sym, ap, ◌∙◌}
use mathlib.Core.List.{List, [], ◌∷◌, ◌++◌}
use mathlib.Core.Bool.{Bool, true, false, ◌||◌, or-true, or-false}
use mathlib.Core.Option.{Option, none, some}
use native.Mathlib.Omega.{arith}
use native.Mathlib.Decide.{dec_le}
use lib.Dec.{eqb, leb, ltb}
use lib.IntN.{ℤ, pos, negsuc}
use lib.ListN.{length, get_or, take, drop, replicate, length-append, length-take, length-drop}
use lib.Seq.{get_or-take, length-take-le}
use borrow.Author.Tests.{eqb-true, ne_eqb}
use Rattle.output.specs.Logic.{if, byte, ascii}
use Rattle.text_rules.specs.Digits.{digits}
use Rattle.text_rules.specs.Text.{Sym, symbol_text, symbol_id_text, string_text, clob_text, blob_text, type_name, null_text, bool_text}
use Rattle.text_rules.proofs.DigitLaws.{digits-some}
use Rattle.numbers.specs.Decimal.{int_text, pointed, scientific, above, below, form, sign, decimal_text}
use Rattle.numbers.specs.Timestamp.{timestamp_text}
use Rattle.numbers.specs.declared.timestamp.Timestamp.{Timestamp}
use Rattle.tape.specs.Bytes.{part, le_number, signed}
use Rattle.tape.specs.Tree.{Scalar, Head, null, bool, int, decimal, timestamp, symbol, string, clob, encode_sym, encode_scalar}
use Rattle.tape.specs.Tape.{reading, kind, length_of, text_of, sym_of, syms_of, name_of, notes_of, head_of, byte_of, int_of, float_as, float_of, decimal_of, timestamp_as, timestamp_of, symbol_of, sized_of, scalar_of, text_fault, sym_fault, scalar_fault}
use Rattle.tape.specs.Steps.{place_of, head_at, size_taken}
use Rattle.tape.specs.CheckSteps.{code_of, scalar_code, span_of, syms_front, notes_front}
use Rattle.tape.specs.Fine.{Bytes}
use Rattle.tape.specs.declared.Frame.{Frame}
use Rattle.tape.specs.declared.Frame.TheVariants.{Struct}
use Rattle.std.specs.Prelude.{Some, None}
use Rattle.tape.proofs.Numbers.{bytes_drop, bytes_take}
use Rattle.tape.proofs.Reading.{Sound, something, sym_sound, scalar_sound}
use Rattle.tape.proofs.Parts.{part_length, part-first, part_byte, part-number, part-drop}
use Rattle.tape.proofs.CodeFacts.{part_text, Read, code_read, read_within, sym_read, code_text, code-symbol, code-string, front-notes, span-is, span_text}
use Rattle.tape.proofs.CodeReading.{notes-some, byte_short, byte_over, byte_some, float_short, float-some, decimal_short, timestamp_short, length_over, length_some, text_by, sym_id, sym_short, scalar-null, scalar-bool, scalar_int, scalar-float, scalar_decimal, scalar-timestamp, scalar-symbol, scalar-string, scalar-clob, scalar-blob, scalar-empty}
use Rattle.writer.specs.Text.{sym_text, scalar_text, name_text, notes_text}
use Rattle.writer.specs.Steps.{name_in, notes_in, front}
use Rattle.writer.proofs.Leaves.{LeafAt, NameAt, text_name, id_name, int_leaf, decimal_leaf, timestamp_leaf, symbol_leaf}
use Rattle.writer.proofs.Notes.{front_parts}
use Rattle.measure.specs.Sums.{front_length, leaf_length, sym_length}
use Rattle.measure.specs.Steps.{is_untold}
use Rattle.measure.proofs.EscapeLengths.{symbol_most}
use Rattle.measure.proofs.NumberLengths.{length_short, length-minute, length-second, id_most}
use Rattle.measure.proofs.TextSums.{length-3}

-- ---- symbols

-- of n bytes, which a u32 counts
pub text_most : (quoted : Bool) (n : ℕ) (s : List ℕ) → n < 4294967296 → length (symbol_text quoted (take n s)) ≤ 17179869184
text_most quoted n s h = omega (arith, symbol_most quoted (take n s), length-take n s)

-- ---- names

name-length : (quoted : Bool) (x : Sym) → length (name_text quoted (some x)) ≡ length (sym_text quoted x) + 2
unfolding name_text
name-length quoted x = length-append (sym_text quoted x) (ascii ": ")

module _ (quoted : Bool) {s : List ℕ} {at e : ℕ} (n : ℕ) where
  pub text_name-length : NameAt s at e (Sym.text (take n (drop 5 (part s at e)))) (5 + n)
      → length (name_text quoted (name_in Struct (part s at e))) ≡ length (symbol_text quoted (take n (drop (at + 5) s))) + 2
  unfolding sym_text
  text_name-length q =
      let r = q.room in
      rw q.read (name-length quoted (Sym.text (take n (drop 5 (part s at e)))) ∙ ap (λ (l : List ℕ). length (symbol_text quoted l) + 2) (part_text s at e n (omega arith)))

  pub id_name-length : NameAt s at e (Sym.id n) 5 → length (name_text quoted (name_in Struct (part s at e))) ≡ length (symbol_id_text n) + 2
  unfolding sym_text
  id_name-length q = rw q.read (name-length quoted (Sym.id n))

-- ---- a symbol that validation passes, by the size that it says

module _ (s : List ℕ) (at e : ℕ) (w : at ≤ e) (i : e ≤ length s) (size : ℕ) (z : size ≡ code_of sym_fault (sym_of (part s at e))) (h : 1 ≤ size) where
  sym_here : Read sym_fault (sym_of (part s at e)) size
  sym_here = sym_read (part s at e) size z (λ y. omega arith)

  pub sym-room : at + size ≤ e
  sym-room = read_within sym_fault encode_sym s at e (sym_of (part s at e)) size w i (sym_sound (part s at e)) sym_here

  -- as a name
  as_name : name_of Struct (part s at e) ≡ some (some sym_here.it, size)
  unfolding name_of
  as_name = rw sym_here.is refl

  name_read : name_of Struct (part s at e) ≡ some (name_in Struct (part s at e), size_taken (name_of Struct (part s at e)))
  name_read = rw as_name refl

  module _ (quoted : Bool) where
    sym-name : length (name_text quoted (name_in Struct (part s at e))) ≡ sym_length quoted (part s at e) + 2
    sym-name = rw (sym_here.is, as_name) (name-length quoted sym_here.it)

    pub sym_text_length : get_or s at 0 < 7 → (5 ≤ size) × (sym_length quoted (part s at e) ≡ length (symbol_text quoted (take (size - 5) (drop (at + 5) s))))
    sym_text_length k =
        let n : ℕ = le_number 4 (drop (at + 1) s) in
        let q = text_name s at e w i name_read n refl (λ (y : get_or s at 0 ≡ 7). omega arith) in
        let m : size ≡ 5 + n = ap (λ (o : Option (Option Sym × ℕ)). size_taken o) (sym as_name ∙ q.read) in
        let d : size - 5 ≡ n = omega arith in
        let t = text_name-length quoted n q in
        let y = sym-name in
        (omega arith, rw d (omega arith))

    pub sym_id_length : (n : ℕ) → n ≡ le_number 4 (drop (at + 1) s) → 7 ≤ get_or s at 0 → (5 ≤ size) × (sym_length quoted (part s at e) ≡ length (symbol_id_text n))
    sym_id_length n j k =
        let q = id_name s at e w i name_read n j k in
        let m : size ≡ 5 = ap (λ (o : Option (Option Sym × ℕ)). size_taken o) (sym as_name ∙ q.read) in
        let t = id_name-length quoted n q in
        let y = sym-name in
        (omega arith, omega arith)

    -- at most so long, on a tape of at most so many bytes
    pub sym-length_most : e ≤ 1048576 → sym_length quoted (part s at e) + 2 ≤ 4200000
    sym-length_most g = go (dec_le 7 (get_or s at 0))
      where
        go : Dec (7 ≤ get_or s at 0) → sym_length quoted (part s at e) + 2 ≤ 4200000
        go (yes k) = let t = (sym_id_length (le_number 4 (drop (at + 1) s)) refl k).1 in let m = id_most (le_number 4 (drop (at + 1) s)) in omega arith
        go (no k) =
            let t = (sym_text_length (omega arith)).1 in
            let r = sym-room in
            let m = symbol_most quoted (take (size - 5) (drop (at + 5) s)) in
            let n = length-take (size - 5) (drop (at + 5) s) in
            omega arith

-- ---- annotations

-- a flag that is set where n holds
pub flag_set : (b n r : Bool) → n ≡ true → r ≡ true → r ≡ b || n
flag_set b n r e f = f ∙ sym (ap (λ (x : Bool). b || x) e ∙ or-true b)

pub flag_left : (b n r : Bool) → n ≡ false → r ≡ b → r ≡ b || n
flag_left b n r e f = f ∙ sym (ap (λ (x : Bool). b || x) e ∙ or-false b)

module _ (quoted : Bool) where
  -- a, and the length of the annotations that were read
  abbrev pub noted_from : ℕ → Option (List Sym × ℕ) → ℕ
  noted_from a o = reading o 0 (λ ss m. a + length (notes_text quoted ss))

  pub noted-all : (o : Option (List Sym × ℕ)) → noted_from 0 o ≡ length (notes_text quoted (reading o [] (λ ss m. ss)))
  unfolding notes_text
  noted-all none = refl
  noted-all (some (ss, m)) = omega arith

  pub noted-end : (a c : ℕ) (l : List ℕ) → c ≤ 0 → noted_from a (syms_of c l) ≡ a
  unfolding syms_of notes_text
  noted-end a zero l h = omega arith
  noted-end a (suc c) l h = absurd (omega arith)

  noted-step-at : (a c : ℕ) (l : List ℕ) (x : Sym) (n : ℕ) → sym_of l ≡ some (x, n) → noted_from a (syms_of (suc c) l) ≡ noted_from (a + (length (sym_text quoted x) + 2)) (syms_of c (drop n l))
  unfolding syms_of notes_text
  noted-step-at a c l x n e = rw e (go (syms_of c (drop n l)))
    where
      go : (o : Option (List Sym × ℕ)) → noted_from a (reading o none (λ ss m. some (x ∷ ss, n + m))) ≡ noted_from (a + (length (sym_text quoted x) + 2)) o
      go none = refl
      go (some (ss, m)) = let y = length-3 (sym_text quoted x) (ascii "::") (notes_text quoted ss) in omega arith

  -- an annotation more, where validation passes it
  pub noted_step : (s : List ℕ) (p e : ℕ) (w : p ≤ e) (i : e ≤ length s) (size : ℕ) (z : size ≡ code_of sym_fault (sym_of (part s p e))) (h : 1 ≤ size) (a c : ℕ) → 0 < c
      → noted_from a (syms_of c (part s p e)) ≡ noted_from (a + (sym_length quoted (part s p e) + 2)) (syms_of (c - 1) (part s (p + size) e))
  noted_step s p e w i size z h a zero g = absurd (omega arith)
  noted_step s p e w i size z h a (suc c) g =
      let r = sym_here s p e w i size z h in
      let d : suc c - 1 ≡ c = omega arith in
      let y : sym_length quoted (part s p e) ≡ length (sym_text quoted r.it) = rw r.is refl in
      rw (d, y, ← part-drop s p e size) (noted-step-at a c (part s p e) r.it size r.is)

notes_are : (l : List ℕ) → kind l ≡ 13 → 1 ≤ get_or l 1 0 → get_or l 1 0 ≤ 16 → reading (syms_of (get_or l 1 0) (drop 2 l)) [] (λ ss m. ss) ≡ notes_in l
notes_are l k h g = rw (notes-some l k h g) (go (syms_of (get_or l 1 0) (drop 2 l)))
  where
    go : (o : Option (List Sym × ℕ)) → reading {B = List Sym} o [] (λ ss m. ss) ≡ reading {B = List Sym} (reading {B = Option (List Sym × ℕ)} o none (λ ss m. some (ss, 2 + m))) [] (λ ss m. ss)
    go none = refl
    go (some (ss, m)) = refl

-- behind their kind byte and their number
module _ (s : List ℕ) (at e : ℕ) (r : at + 2 ≤ e) (k : get_or s at 0 ≡ 13) (h : 1 ≤ get_or s (at + 1) 0) (g : get_or s (at + 1) 0 ≤ 16) where
  count-is : get_or (part s at e) 1 0 ≡ get_or s (at + 1) 0
  count-is = part_byte s at e 1 (omega arith)

  kind_there : kind (part s at e) ≡ 13
  kind_there = part-first s at e (omega arith) ∙ k

  pub notes-front : syms_front (at + 2) false (syms_of (get_or s (at + 1) 0) (part s (at + 2) e)) ≡ notes_front at true false (notes_of (part s at e))
  notes-front = let b = count-is in rw (← b, ← part-drop s at e 2) (front-notes (part s at e) at true false kind_there (omega arith) (omega arith))

  pub notes-length : (quoted : Bool) → length (notes_text quoted (reading (syms_of (get_or s (at + 1) 0) (part s (at + 2) e)) [] (λ ss m. ss))) ≡ length (notes_text quoted (notes_in (part s at e)))
  notes-length quoted = let b = count-is in rw (← b, ← part-drop s at e 2) (ap (λ (ss : List Sym). length (notes_text quoted ss)) (notes_are (part s at e) kind_there (omega arith) (omega arith)))

-- ---- heads

front_length_lem : (quoted : Bool) (h : Head) → length (front quoted 3 0 h) ≡ front_length quoted h
unfolding front
front_length_lem quoted h = length-append (name_text quoted h.0) (notes_text quoted h.1)

module _ (quoted : Bool) (k : Frame) (s : List ℕ) (at e q : ℕ) where
  -- a name, and annotations behind it
  pub front-both : (v : ℕ) → place_of at (name_of k (part s at e)) ≡ Some q → place_of at (head_of k (part s at e)) ≡ Some v
      → front_length quoted (head_at k (part s at e)) ≡ length (name_text quoted (name_in k (part s at e))) + length (notes_text quoted (notes_in (part s q e)))
  front-both v n z =
      sym (front_length_lem quoted (head_at k (part s at e)))
      ∙ ap length (front_parts quoted 3 0 k s at e q v n z)
      ∙ length-append (name_text quoted (name_in k (part s at e))) (notes_text quoted (notes_in (part s q e)))

-- ---- texts of scalars that are never empty

behind : (s : List ℕ) (c : ℕ) (t : List ℕ) → 0 < length (s ++ (c ∷ t))
behind s c t = omega (arith, length-append s (c ∷ t))

null-some : (t : ℕ) → 0 < length (null_text t)
unfolding null_text
null-some t = go (eqb t 0)
  where
    go : (b : Bool) → 0 < length (if b (ascii "null") (ascii "null." ++ type_name t))
    go true = omega arith
    go false = omega arith

bool-some : (b : Bool) → 0 < length (bool_text b)
unfolding bool_text
bool-some true = omega arith
bool-some false = omega arith

int_some : (z : ℤ) → 0 < length (int_text z)
unfolding int_text
int_some (pos n) = omega (arith, digits-some n)
int_some (negsuc n) = omega arith

form-some : (ds : List ℕ) (w : ℕ) (z : ℤ) → 0 < length (form ds w z)
unfolding form above below scientific pointed
form-some ds w (pos zero) = go (ltb 6 w)
  where
    go : (b : Bool) → 0 < length (if b (scientific ds (pos (w - 1))) (ds ++ (byte "." ∷ [])))
    go true = behind (take 1 ds ++ (byte "." ∷ drop 1 ds)) _ _
    go false = behind ds _ _
form-some ds w (pos (suc e)) = behind ds _ _
form-some ds w (negsuc k) = go (ltb (suc k) w) (leb (suc k) (w + 5))
  where
    go : (b c : Bool) → 0 < length (if b (pointed ds (w - suc k)) (if c (byte "0" ∷ byte "." ∷ (replicate (suc k - w) (byte "0") ++ ds)) (scientific ds (negsuc (suc k - w)))))
    go true c = behind (take (w - suc k) ds) _ _
    go false true = omega arith
    go false false = behind (take 1 ds ++ (byte "." ∷ drop 1 ds)) _ _

decimal_some : (neg : Bool) (m : ℕ) (z : ℤ) → 0 < length (decimal_text neg m z)
unfolding decimal_text
decimal_some neg m z = let ds = digits m in omega (arith, length-append (sign neg) (form ds (length ds) z), form-some ds (length ds) z)

timestamp-some : (x : Timestamp) → 0 < length (timestamp_text x)
timestamp-some x = go (dec_le x.precision 2) (dec_le x.precision 3)
  where
    go : Dec (x.precision ≤ 2) → Dec (x.precision ≤ 3) → 0 < length (timestamp_text x)
    go (yes h) d = omega (arith, length_short x h)
    go (no h) (yes d) = omega (arith, length-minute x (omega arith))
    go (no h) (no d) = omega (arith, length-second x (omega arith))

id_some : (n : ℕ) → 0 < length (symbol_id_text n)
unfolding symbol_id_text
id_some n = omega arith

-- ---- scalars

-- a scalar that validation passes was read, and has the size that it says
passed : (o : Option (Scalar × ℕ)) → 2 ≤ scalar_code o → size_taken o ≡ scalar_code o
passed o h = ap (λ (o : Option (Scalar × ℕ)). size_taken o) (code_read scalar_fault o (scalar_code o) refl h).is

pub stands : (s : List ℕ) (at e : ℕ) → 2 ≤ scalar_code (scalar_of (part s at e)) → 0 < size_taken (scalar_of (part s at e))
stands s at e h = let n = passed (scalar_of (part s at e)) h in omega arith

-- the last of the kinds whose length is told late
pub untold_clob : (k : ℕ) → is_untold k ≡ true → (k ≡ 3 → ⊥) → (k ≡ 6 → ⊥) → (k ≡ 8 → ⊥) → k ≡ 9
untold_clob k r a b c = eqb-true _ _ (rw (ne_eqb k 3 a, ne_eqb k 6 b, ne_eqb k 8 c) at r)

module _ {s : List ℕ} {at e : ℕ} {x : Scalar} {n : ℕ} (q : LeafAt s at e x n) where
  leaf-length : (quoted : Bool) → leaf_length quoted (part s at e) ≡ length (scalar_text quoted x)
  leaf-length quoted = rw q.read refl

  leaf_size : size_taken (scalar_of (part s at e)) ≡ n
  leaf_size = rw q.read refl

-- the bytes of a text node, as they stand on the tape
module _ (quoted : Bool) {s : List ℕ} {at e : ℕ} (n : ℕ) where
  pub symbol-length-is : LeafAt s at e (symbol (Sym.text (take n (drop 5 (part s at e))))) (5 + n) → leaf_length quoted (part s at e) ≡ length (symbol_text quoted (take n (drop (at + 5) s)))
  unfolding scalar_text sym_text
  symbol-length-is q = let r = q.room in leaf-length q quoted ∙ ap (λ (l : List ℕ). length (symbol_text quoted l)) (part_text s at e n (omega arith))

  pub string-length-is : LeafAt s at e (string (take n (drop 5 (part s at e)))) (5 + n) → leaf_length quoted (part s at e) ≡ length (string_text (take n (drop (at + 5) s)))
  unfolding scalar_text
  string-length-is q = let r = q.room in leaf-length q quoted ∙ ap (λ (l : List ℕ). length (string_text l)) (part_text s at e n (omega arith))

  pub clob-length-is : LeafAt s at e (clob (take n (drop 5 (part s at e)))) (5 + n) → leaf_length quoted (part s at e) ≡ length (clob_text (take n (drop (at + 5) s)))
  unfolding scalar_text
  clob-length-is q = let r = q.room in leaf-length q quoted ∙ ap (λ (l : List ℕ). length (clob_text l)) (part_text s at e n (omega arith))

module _ (s : List ℕ) (at e : ℕ) (w : at ≤ e) (i : e ≤ length s) (z : 2 ≤ scalar_code (scalar_of (part s at e))) where
  abbrev l : List ℕ
  l = part s at e

  there : scalar_of l ≡ none → ⊥
  there q = let y : scalar_code (scalar_of l) ≡ 0 = ap (λ (o : Option (Scalar × ℕ)). scalar_code o) q in omega arith

  -- it has n bytes, if with fewer there is none
  long : (n : ℕ) → (length l < n → scalar_of l ≡ none) → n ≤ length l
  long n f = go (dec_le n (length l))
    where
      go : Dec (n ≤ length l) → n ≤ length l
      go (yes h) = h
      go (no h) = absurd (there (f (omega arith)))

  first_byte : kind l ≡ get_or s at 0
  first_byte = let n = part_length s at e i in let h = long 1 (λ h. scalar-empty l (omega arith)) in part-first s at e (omega arith)

  byte_leaf : (most : ℕ) (f : ℕ → Scalar) → scalar_of l ≡ byte_of most f l → LeafAt s at e (f (get_or s (at + 1) 0)) 2
  byte_leaf most f t =
      let n = part_length s at e i in
      let h = long 2 (λ h. t ∙ byte_short l most f h) in
      let b = part_byte s at e 1 (omega arith) in
      record { room = omega arith; read = t ∙ byte_some l most f h (low (dec_le (get_or l 1 0) most)) ∙ ap (λ (j : ℕ). some (f j, 2)) b }
    where
      low : Dec (get_or l 1 0 ≤ most) → get_or l 1 0 ≤ most
      low (yes g) = g
      low (no g) = absurd (there (t ∙ byte_over l most f (omega arith)))

  null_leaf : get_or s at 0 ≡ 0 → LeafAt s at e (null (get_or s (at + 1) 0)) 2
  null_leaf k = byte_leaf 12 null (scalar-null l (first_byte ∙ k))

  bool_leaf : get_or s at 0 ≡ 1 → LeafAt s at e (bool (eqb (get_or s (at + 1) 0) 1)) 2
  bool_leaf k = byte_leaf 1 (λ b. bool (eqb b 1)) (scalar-bool l (first_byte ∙ k))

  -- the bits of a float
  pub float_read : get_or s at 0 ≡ 3 → (at + 9 ≤ e) × (scalar_of l ≡ float_as (le_number 8 (drop (at + 1) s)))
  float_read k =
      let t = scalar-float l (first_byte ∙ k) in
      let h = long 9 (λ h. t ∙ float_short l h) in
      let n = part_length s at e i in
      let u = part-number s at e 8 1 (omega arith) in
      (omega arith, t ∙ float-some l h ∙ ap float_as u)

  module _ (n : ℕ) (j : n ≡ le_number 4 (drop (at + 1) s)) where
    -- the number behind the kind byte
    length-is : at + 5 ≤ e → length_of l ≡ n
    length-is r = part-number s at e 4 1 (omega arith) ∙ sym j

    id_leaf : get_or s at 0 ≡ 7 → LeafAt s at e (symbol (Sym.id n)) 5
    unfolding symbol_of
    id_leaf k =
        let c : kind l ≡ 7 = first_byte ∙ k in
        let t : scalar_of l ≡ symbol_of l = scalar-symbol l (omega arith) (omega arith) in
        let o : (o : Option (Sym × ℕ)) → sym_of l ≡ o → scalar_of l ≡ reading {B = Option (Scalar × ℕ)} o none (λ x m. some (symbol x, m)) = λ o q. t ∙ ap (λ (o : Option (Sym × ℕ)). reading {B = Option (Scalar × ℕ)} o none (λ x m. some (symbol x, m))) q in
        let h = long 5 (λ h. o none (sym_short l h)) in
        let len = part_length s at e i in
        let g = length-is (omega arith) in
        record { room = omega arith; read = o (some (Sym.id (length_of l), 5)) (sym_id l c h) ∙ ap (λ (m : ℕ). some (symbol (Sym.id m), 5)) g }

    pub clob_leaf : get_or s at 0 ≡ 9 → LeafAt s at e (clob (take n (drop 5 l))) (5 + n)
    unfolding sized_of
    clob_leaf k =
        let t : scalar_of l ≡ sized_of clob l = scalar-clob l (first_byte ∙ k) in
        let f : 5 + length_of l ≤ length l = long (5 + length_of l) (λ h. t ∙ ap (λ (o : Option (List ℕ × ℕ)). reading {B = Option (Scalar × ℕ)} o none (λ x m. some (clob x, m))) (text_by l None (sym (length_over l h)))) in
        let len = part_length s at e i in
        let g = length-is (omega arith) in
        record {
          room = omega arith;
          read = t
              ∙ ap (λ (o : Option (List ℕ × ℕ)). reading {B = Option (Scalar × ℕ)} o none (λ x m. some (clob x, m))) (text_by l (Some (length_of l)) (sym (length_some l f)))
              ∙ ap (λ (m : ℕ). some (clob (take m (drop 5 l)), 5 + m)) g;
        }

  -- the kind byte is the first byte of the scalar's encoding
  pub kind-is : Bytes s → (x : Scalar) (n : ℕ) → scalar_of l ≡ some (x, n) → get_or s at 0 ≡ get_or (encode_scalar x) 0 0
  kind-is all x n q = go (rw q at (stands s at e z)) (rw q at (scalar_sound l))
    where
      go : 0 < n → Sound encode_scalar l (some (x, n)) → get_or s at 0 ≡ get_or (encode_scalar x) 0 0
      go p (something h t) = sym first_byte ∙ sym (get_or-take n l 0 0 p) ∙ ap (λ (u : List ℕ). get_or u 0 0) (sym (t (bytes_take (e - at) (drop at s) (bytes_drop at s all))))

-- a blob of z bytes, by the length n that its text has whatever its bytes are
pub blob-told : (quoted : Bool) (l : List ℕ) → kind l ≡ 15 → (z n : ℕ) → z ≡ span_of l → (z ≡ 0 → ⊥) → ((s : List ℕ) → length s ≡ z - 5 → n ≡ length (blob_text s)) → n ≡ leaf_length quoted l
unfolding sized_of scalar_text
blob-told quoted l k z n e nz f =
    let i = span-is l z e nz in
    f (take (z - 5) (drop 5 l)) (length-take-le (z - 5) (drop 5 l) (omega (arith, length-drop 5 l, i.0, i.1))) ∙ rw (scalar-blob l k, span_text l z e nz) refl

-- ---- what `leaf_at` says of a scalar: its size z as validation has it, the length n of its text or 0

abbrev pub Told : Bool → List ℕ → ℕ → ℕ → ℕ → ℕ → Type 0
Told quoted s at e z n =
    (z ≡ scalar_code (scalar_of (part s at e)))
    × ((2 ≤ z → 0 < n → n ≡ leaf_length quoted (part s at e)) × (2 ≤ z → n ≡ 0 → is_untold (get_or s at 0) ≡ true))

module _ (quoted : Bool) (s : List ℕ) (at e : ℕ) (w : at < e) (i : e ≤ length s) where
  abbrev m : List ℕ
  m = part s at e

  first : kind m ≡ get_or s at 0
  first = part-first s at e w

  -- a scalar with a text that is never empty
  told : (z n k : ℕ) (x : Scalar) → z ≡ scalar_code (scalar_of m) → (2 ≤ scalar_code (scalar_of m) → LeafAt s at e x k) → n ≡ length (scalar_text quoted x) → 0 < length (scalar_text quoted x) → Told quoted s at e z n
  told z n k x c f t p = (c, (λ h _. t ∙ sym (leaf-length (f (omega arith)) quoted), λ h q. absurd (omega arith)))

  told-later : (z : ℕ) → z ≡ scalar_code (scalar_of m) → is_untold (get_or s at 0) ≡ true → Told quoted s at e z 0
  told-later z c r = (c, (λ h p. absurd (omega arith), λ h q. r))

  told-refused : (z : ℕ) → z ≡ scalar_code (scalar_of m) → z ≡ 0 → Told quoted s at e z 0
  told-refused z c q = (c, (λ h p. absurd (omega arith), λ h p. absurd (omega arith)))

  -- it has k bytes, if with fewer there is none
  room : (k z : ℕ) (o : Option (Scalar × ℕ)) → (length m < k → o ≡ none) → z ≡ scalar_code o → (z ≡ 0 → ⊥) → at + k ≤ e
  room k z o f c nz = go (dec_le k (length m))
    where
      go : Dec (k ≤ length m) → at + k ≤ e
      go (yes h) = let n = part_length s at e i in omega arith
      go (no h) = absurd (nz (c ∙ ap (λ (o : Option (Scalar × ℕ)). scalar_code o) (f (omega arith))))

  module _ (z : ℕ) where
    code_is : (o : Option (Scalar × ℕ)) → z ≡ scalar_code o → scalar_of m ≡ o → z ≡ scalar_code (scalar_of m)
    code_is o c q = c ∙ ap (λ (o : Option (Scalar × ℕ)). scalar_code o) (sym q)

    pub null-told : (n : ℕ) → get_or s at 0 ≡ 0 → z ≡ scalar_code (byte_of 12 null m) → n ≡ length (null_text (get_or s (at + 1) 0)) → Told quoted s at e z n
    unfolding scalar_text
    null-told n k c t = told z n 2 (null (get_or s (at + 1) 0)) (code_is _ c (scalar-null m (first ∙ k))) (λ y. null_leaf s at e (omega arith) i y k) t (null-some _)

    pub bool-told : (n : ℕ) → get_or s at 0 ≡ 1 → z ≡ scalar_code (byte_of 1 (λ b. bool (eqb b 1)) m) → n ≡ length (bool_text (eqb (get_or s (at + 1) 0) 1)) → Told quoted s at e z n
    unfolding scalar_text
    bool-told n k c t = told z n 2 (bool (eqb (get_or s (at + 1) 0) 1)) (code_is _ c (scalar-bool m (first ∙ k))) (λ y. bool_leaf s at e (omega arith) i y k) t (bool-some _)

    pub int_told : (n : ℕ) → get_or s at 0 ≡ 2 → z ≡ scalar_code (int_of m) → n ≡ length (int_text (signed 64 (le_number 8 (drop (at + 1) s)))) → Told quoted s at e z n
    unfolding scalar_text
    int_told n k c t = told z n 9 (int (signed 64 (le_number 8 (drop (at + 1) s)))) (code_is _ c (scalar_int m (first ∙ k))) (λ y. int_leaf s at e (omega arith) i (stands s at e y) k) t (int_some _)

    pub float-told : get_or s at 0 ≡ 3 → z ≡ scalar_code (float_of m) → Told quoted s at e z 0
    float-told k c = told-later z (code_is _ c (scalar-float m (first ∙ k))) (ap (λ (j : ℕ). is_untold j) k)

    module _ (k : get_or s at 0 ≡ 4) (c : z ≡ scalar_code (decimal_of m)) where
      decimal_code : z ≡ scalar_code (scalar_of m)
      decimal_code = code_is _ c (scalar_decimal m (first ∙ k))

      pub decimal_refused : z ≡ 0 → Told quoted s at e z 0
      decimal_refused q = told-refused z decimal_code q

      pub decimal_room : (z ≡ 0 → ⊥) → at + 14 ≤ e
      decimal_room nz = room 14 z (decimal_of m) (decimal_short m) c nz

      pub decimal_told : (n : ℕ) → n ≡ length (decimal_text (eqb (get_or s (at + 1) 0) 1) (le_number 8 (drop (at + 2) s)) (signed 32 (le_number 4 (drop (at + 10) s)))) → Told quoted s at e z n
      unfolding scalar_text
      decimal_told n t = told z n 14 (decimal (eqb (get_or s (at + 1) 0) 1) (le_number 8 (drop (at + 2) s)) (signed 32 (le_number 4 (drop (at + 10) s)))) decimal_code (λ y. decimal_leaf s at e (omega arith) i (stands s at e y) k) t (decimal_some _ _ _)

    module _ (k : get_or s at 0 ≡ 5) (c : z ≡ scalar_code (timestamp_of m)) where
      timestamp-code : z ≡ scalar_code (scalar_of m)
      timestamp-code = code_is _ c (scalar-timestamp m (first ∙ k))

      pub timestamp-refused : z ≡ 0 → Told quoted s at e z 0
      timestamp-refused q = told-refused z timestamp-code q

      pub timestamp-room : (z ≡ 0 → ⊥) → at + 16 ≤ e
      timestamp-room nz = room 16 z (timestamp_of m) (timestamp_short m) c nz

      pub timestamp-told : (n : ℕ) → n ≡ length (timestamp_text (timestamp_as (drop at s))) → Told quoted s at e z n
      unfolding scalar_text
      timestamp-told n t = told z n 16 (timestamp (timestamp_as (drop at s))) timestamp-code (λ y. timestamp_leaf s at e (omega arith) i (stands s at e y) k) t (timestamp-some _)

    pub id_told : (n j : ℕ) → get_or s at 0 ≡ 7 → z ≡ code_of sym_fault (sym_of m) → j ≡ le_number 4 (drop (at + 1) s) → n ≡ length (symbol_id_text j) → Told quoted s at e z n
    unfolding scalar_text sym_text
    id_told n j k c u t =
        let f = first in
        told z n 5 (symbol (Sym.id j)) (code_is _ (c ∙ code-symbol m) (scalar-symbol m (omega arith) (omega arith))) (λ y. id_leaf s at e (omega arith) i y j u k) t (id_some j)

    pub string-told : get_or s at 0 ≡ 8 → z ≡ code_of text_fault (text_of m) → Told quoted s at e z 0
    string-told k c = told-later z (code_is _ (c ∙ code-string m) (scalar-string m (first ∙ k))) (ap (λ (j : ℕ). is_untold j) k)

    -- a symbol that is text
    module _ (k : get_or s at 0 ≡ 6) (c : z ≡ code_of text_fault (text_of m)) where
      pub word-code : z ≡ scalar_code (scalar_of m)
      word-code = let f = first in code_is _ (c ∙ code_text m (f ∙ k) ∙ code-symbol m) (scalar-symbol m (omega arith) (omega arith))

      -- where it passes
      module _ (h : 2 ≤ z) where
        word_leaf : LeafAt s at e (symbol (Sym.text (take (le_number 4 (drop (at + 1) s)) (drop 5 m)))) (5 + le_number 4 (drop (at + 1) s))
        word_leaf = let c = word-code in symbol_leaf s at e (omega arith) i (stands s at e (omega arith)) _ refl k

        word_bytes : le_number 4 (drop (at + 1) s) ≡ z - 5
        word_bytes = let t = leaf_size word_leaf in let d = word-code in let p = passed (scalar_of m) (omega arith) in omega arith

        pub word_room : at + 5 + (z - 5) ≤ e
        word_room = let r = word_leaf.room in let b = word_bytes in omega arith

        pub word-length : leaf_length quoted m ≡ length (symbol_text quoted (take (z - 5) (drop (at + 5) s)))
        word-length = symbol-length-is quoted _ word_leaf ∙ ap (λ (j : ℕ). length (symbol_text quoted (take j (drop (at + 5) s)))) word_bytes
