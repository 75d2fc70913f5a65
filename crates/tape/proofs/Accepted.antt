-- A well-formed tree is read back from its encoding, and its tape is accepted. Assumes nothing.
use Prim.Native.Nat.{ℕ, zero, suc, ◌+◌, ◌-◌, ◌%◌, ◌^◌, ◌<◌, ◌≤◌}
use mathlib.Core.Path.{◌≡◌, refl, sym, ap, ◌∙◌}
use mathlib.Core.List.{List, [], ◌∷◌, ◌++◌, append_assoc, append-nil}
use mathlib.Core.Bool.{Bool, true, false}
use mathlib.Core.Option.{Option, none, some}
use native.Mathlib.Omega.{arith}
use lib.Dec.{T, lit<}
use lib.IntN.{ℤ}
use lib.Ieee.{Float, nan, inf, fin, binary64, fits, of_bits, to_bits, is_nan}
use lib.Ieee.Bits.{of_bits-to_bits, to_bits-lt}
use lib.Ieee.Fits.{inf-fits}
use lib.ListN.{length, take, drop, length-append}
use lib.Seq.{take-append_seam, drop-append_seam, take_at, drop_at}
use mir.Syntax.{w16, w32, w64}
use mir.Val.{SFits}
use borrow.Author.Tests.{le-leb, le-ltb, eq-eqb, ne_eqb}
use Rattle.output.specs.Wrote.{le_bytes}
use Rattle.output.proofs.Laws.{length-le}
use Rattle.text_rules.specs.Text.{Sym}
use Rattle.numbers.specs.Timestamp.{well_formed}
use Rattle.numbers.specs.declared.timestamp.Timestamp.{Timestamp}
use Rattle.tape.specs.Bytes.{le_number, signed, bits, first}
use Rattle.tape.specs.Tree.{Scalar, Head, Node, Nodes, null, bool, int, float, decimal, timestamp, symbol, string, clob, blob, scalar, nest, marker, nil, more, size, bit, tag, float_bits, sized, encode_timestamp, encode_sym, encode_scalar, encode_syms, encode_name, encode_notes, encode_head, encode, encodes, tape}
use Rattle.tape.specs.Tape.{reading, kind, length_of, text_of, sym_of, syms_of, name_of, notes_of, head_of, byte_of, int_of, float_as, float_of, decimal_of, timestamp_as, timestamp_of, symbol_of, sized_of, scalar_of, Value, absent, leaf, body, open_of, value_of, bad, free_at, headed_child, child_of, text_fault, sym_fault, syms_fault, name_fault, head_fault, float_fault, scalar_fault, Walked, fault, join, walk, body_of, nodes_of}
use Rattle.tape.specs.Fine.{FineText, FineSym, FineSyms, FineFloat, FineScalar, FineName, FineHead, FineMarker, Inner, Fine, Fines}
use Rattle.tape.specs.Verdict.{misfit, count_fault, verdict}
use Rattle.tape.specs.declared.Frame.{Frame}
use Rattle.tape.specs.declared.Frame.TheVariants.{Top, List as ListF, Sexp, Struct}
use Rattle.tape.proofs.Numbers.{le-number, bits_bound, signed-bits, not-nan-low}
use Rattle.numbers.proofs.Calendar.{same-fields}
use Rattle.tape.proofs.Ranges.{well_ranges}
use Rattle.tape.proofs.Walking.{walk_end, walk_leaf, walk_tree}
use Rattle.tape.proofs.CodeReading.{value-scalar}

-- ---- texts and symbols

text_as : (k : ℕ) (s r : List ℕ) → length s < 2 ^ 32 → text_of ((k ∷ sized s) ++ r) ≡ some (s, length (k ∷ sized s))
unfolding text_of sized
text_as k s r h =
    let a : List ℕ = le_bytes 4 (length s) in
    let l : List ℕ = k ∷ ((a ++ s) ++ r) in
    let four : length a ≡ 4 = length-le 4 (length s) in
    let e : length_of l ≡ length s = ap (le_number 4) (append_assoc a s r) ∙ le-number 4 (length s) (s ++ r) h in
    let d : drop 5 l ≡ s ++ r = ap (drop 4) (append_assoc a s r) ∙ drop_at a (s ++ r) 4 four in
    let n₁ = length-append (a ++ s) r in
    let n₂ = length-append a s in
    let fits : 5 + length s ≤ length l = omega arith in
    let m : 5 + length s ≡ length (k ∷ (a ++ s)) = omega arith in
    rw (e, d, le-leb (5 + length s) (length l) fits, take-append_seam s r) (ap (λ (i : ℕ). some (s, i)) m)

sym_as : (s : Sym) (r : List ℕ) → FineSym s → sym_of (encode_sym s ++ r) ≡ some (s, length (encode_sym s))
unfolding sym_of encode_sym
sym_as (Sym.text s) r h = ap (λ (o : Option (List ℕ × ℕ)). reading {B = Option (Sym × ℕ)} o none (λ t n. some (Sym.text t, n))) (text_as 6 s r h.plain.short)
sym_as (Sym.id n) r h =
    let a : List ℕ = le_bytes 4 n in
    let four : length a ≡ 4 = length-le 4 n in
    let m = length-append a r in
    let fits : 5 ≤ length (7 ∷ (a ++ r)) = omega arith in
    rw (le-leb 5 (length (7 ∷ (a ++ r))) fits, le-number 4 n r h, four)

syms_as : (ss : List Sym) (r : List ℕ) → FineSyms ss → syms_of (length ss) (encode_syms ss ++ r) ≡ some (ss, length (encode_syms ss))
unfolding syms_of encode_syms
syms_as [] r h = refl
syms_as (s ∷ ss) r h =
    rw (append_assoc (encode_sym s) (encode_syms ss) r, sym_as s (encode_syms ss ++ r) h.0, drop-append_seam (encode_sym s) (encode_syms ss ++ r), syms_as ss r h.1, length-append (encode_sym s) (encode_syms ss))

-- ---- heads

name_as : (k : Frame) (a : Option Sym) (r : List ℕ) → FineName k a → name_of k (encode_name a ++ r) ≡ some (a, length (encode_name a))
unfolding name_of encode_name
name_as Top none r h = refl
name_as Top (some s) r h = absurd h
name_as ListF none r h = refl
name_as ListF (some s) r h = absurd h
name_as Sexp none r h = refl
name_as Sexp (some s) r h = absurd h
name_as Struct none r h = absurd h
name_as Struct (some s) r h = rw (sym_as s r h)

notes-as : (ss : List Sym) (r : List ℕ) → FineSyms ss → length ss ≤ 16 → (kind r ≡ 13 → ⊥) → notes_of (encode_notes ss ++ r) ≡ some (ss, length (encode_notes ss))
unfolding notes_of encode_notes
notes-as [] r h g k = rw (ne_eqb (kind r) 13 k)
notes-as (s ∷ ss) r h g k =
    let one : 1 ≤ length (s ∷ ss) = omega arith in
    let m : 2 + length (encode_syms (s ∷ ss)) ≡ length (13 ∷ length (s ∷ ss) ∷ encode_syms (s ∷ ss)) = omega arith in
    rw (le-leb 1 (length (s ∷ ss)) one, le-leb (length (s ∷ ss)) 16 g, syms_as (s ∷ ss) r h) (ap (λ (i : ℕ). some (s ∷ ss, i)) m)

pub head_as : (k : Frame) (h : Head) (r : List ℕ) → FineHead k h → (kind r ≡ 13 → ⊥) → head_of k (encode_head h ++ r) ≡ some (h, length (encode_head h))
unfolding head_of encode_head
head_as k (a, ss) r f n =
    rw (append_assoc (encode_name a) (encode_notes ss) r, name_as k a (encode_notes ss ++ r) f.name, drop-append_seam (encode_name a) (encode_notes ss ++ r), notes-as ss r f.notes f.few n, length-append (encode_name a) (encode_notes ss))

-- ---- scalars

null_as : (t : ℕ) (r : List ℕ) → t ≤ 12 → scalar_of (encode_scalar (null t) ++ r) ≡ some (null t, 2)
unfolding scalar_of encode_scalar byte_of
null_as t r h = let n : 2 ≤ length (0 ∷ t ∷ r) = omega arith in rw (le-leb 2 (length (0 ∷ t ∷ r)) n, le-leb t 12 h)

bool_as : (b : Bool) (r : List ℕ) → scalar_of (encode_scalar (bool b) ++ r) ≡ some (bool b, 2)
unfolding scalar_of encode_scalar byte_of
bool_as true r = let n : 2 ≤ length (1 ∷ 1 ∷ r) = omega arith in rw (le-leb 2 (length (1 ∷ 1 ∷ r)) n)
bool_as false r = let n : 2 ≤ length (1 ∷ 0 ∷ r) = omega arith in rw (le-leb 2 (length (1 ∷ 0 ∷ r)) n)

int_as : (n : ℤ) (r : List ℕ) → SFits w64 n → scalar_of (encode_scalar (int n) ++ r) ≡ some (int n, length (encode_scalar (int n)))
unfolding scalar_of encode_scalar int_of
int_as n r h =
    let a : List ℕ = le_bytes 8 (bits 64 n) in
    let eight : length a ≡ 8 = length-le 8 (bits 64 n) in
    let m = length-append a r in
    let fits : 9 ≤ length (2 ∷ (a ++ r)) = omega arith in
    rw (le-leb 9 (length (2 ∷ (a ++ r))) fits, le-number 8 (bits 64 n) r (bits_bound w64 n h), signed-bits w64 n h, eight)

-- what fits 64 bits and is no NaN is read back from its bits
float_back : (x : Float) → T (fits binary64 x) → is_nan x ≡ false → float_as (to_bits binary64 x) ≡ some (float x, 9)
unfolding float_as
float_back x f n =
    let b = to_bits binary64 x in
    let back : of_bits binary64 b ≡ x = of_bits-to_bits binary64 x f in
    let low : b % 0x8000_0000_0000_0000 ≤ 0x7FF0_0000_0000_0000 = not-nan-low b (ap is_nan back ∙ n) in
    rw (ne_eqb b 0x7FF8_0000_0000_0000 (λ e. omega arith), le-ltb _ _ low, back)

float-bits_as : (x : Float) → FineFloat x → (float_bits x < 256 ^ 8) × (float_as (float_bits x) ≡ some (float x, 9)) × (float_fault x ≡ 0)
unfolding float_bits float_as float_fault is_nan
float-bits_as nan h = (lit< tt, refl, refl)
float-bits_as (inf s) h = let f = inf-fits binary64 s in (to_bits-lt binary64 (inf s) f, float_back (inf s) f refl, refl)
float-bits_as (fin s m e) h = (to_bits-lt binary64 (fin s m e) h.0, float_back (fin s m e) h.0 refl, rw h.1)

float-as : (x : Float) (r : List ℕ) → FineFloat x → scalar_of (encode_scalar (float x) ++ r) ≡ some (float x, length (encode_scalar (float x)))
unfolding scalar_of encode_scalar float_of
float-as x r h =
    let f = float-bits_as x h in
    let a : List ℕ = le_bytes 8 (float_bits x) in
    let eight : length a ≡ 8 = length-le 8 (float_bits x) in
    let m = length-append a r in
    let fits : 9 ≤ length (3 ∷ (a ++ r)) = omega arith in
    rw (le-leb 9 (length (3 ∷ (a ++ r))) fits, le-number 8 (float_bits x) r f.0, f.1, eight)

decimal_as : (neg : Bool) (m : ℕ) (e : ℤ) (r : List ℕ) → m < 2 ^ 64 → SFits w32 e
    → scalar_of (encode_scalar (decimal neg m e) ++ r) ≡ some (decimal neg m e, length (encode_scalar (decimal neg m e)))
unfolding scalar_of encode_scalar decimal_of
decimal_as neg m e r h g = go neg
  where
    magnitude : le_number 8 ((le_bytes 8 m ++ le_bytes 4 (bits 32 e)) ++ r) ≡ m
    magnitude = ap (le_number 8) (append_assoc (le_bytes 8 m) (le_bytes 4 (bits 32 e)) r) ∙ le-number 8 m (le_bytes 4 (bits 32 e) ++ r) h

    exponent : signed 32 (le_number 4 (drop 8 ((le_bytes 8 m ++ le_bytes 4 (bits 32 e)) ++ r))) ≡ e
    exponent =
        ap (λ (x : List ℕ). signed 32 (le_number 4 (drop 8 x))) (append_assoc (le_bytes 8 m) (le_bytes 4 (bits 32 e)) r)
        ∙ ap (λ (x : List ℕ). signed 32 (le_number 4 x)) (drop_at (le_bytes 8 m) (le_bytes 4 (bits 32 e) ++ r) 8 (length-le 8 m))
        ∙ ap (signed 32) (le-number 4 (bits 32 e) r (bits_bound w32 e g))
        ∙ signed-bits w32 e g

    long : length (le_bytes 8 m ++ le_bytes 4 (bits 32 e)) ≡ 12
    long = let x = length-append (le_bytes 8 m) (le_bytes 4 (bits 32 e)) in let y = length-le 8 m in let z = length-le 4 (bits 32 e) in omega arith

    fits : (b : ℕ) → 14 ≤ length (4 ∷ b ∷ ((le_bytes 8 m ++ le_bytes 4 (bits 32 e)) ++ r))
    fits b = let x = length-append (le_bytes 8 m ++ le_bytes 4 (bits 32 e)) r in let y = long in omega arith

    go : (neg : Bool) → decimal_of (4 ∷ bit neg ∷ ((le_bytes 8 m ++ le_bytes 4 (bits 32 e)) ++ r)) ≡ some (decimal neg m e, length (4 ∷ bit neg ∷ (le_bytes 8 m ++ le_bytes 4 (bits 32 e))))
    go true = rw (le-leb 14 (length (4 ∷ 1 ∷ ((le_bytes 8 m ++ le_bytes 4 (bits 32 e)) ++ r))) (fits 1), magnitude, exponent, long)
    go false = rw (le-leb 14 (length (4 ∷ 0 ∷ ((le_bytes 8 m ++ le_bytes 4 (bits 32 e)) ++ r))) (fits 0), magnitude, exponent, long)

timestamp-fields : (x : Timestamp) (r : List ℕ) → well_formed x ≡ true → timestamp_as (encode_scalar (timestamp x) ++ r) ≡ x
unfolding encode_scalar encode_timestamp timestamp_as le_bytes
timestamp-fields x r h =
    let l : List ℕ = encode_scalar (timestamp x) ++ r in
    let g = well_ranges x h in
    let year-is : le_number 2 (drop 2 l) ≡ x.year = le-number 2 x.year (drop 4 l) g.year_u16 in
    let offset-is : signed 16 (le_number 2 (drop 9 l)) ≡ x.offset =
    ap (signed 16) (le-number 2 (bits 16 x.offset) (drop 11 l) (bits_bound w16 x.offset g.offset_i16)) ∙ signed-bits w16 x.offset g.offset_i16 in
    let fraction-is : le_number 4 (drop 12 l) ≡ x.fraction = le-number 4 x.fraction (drop 16 l) g.fraction-u32 in
    same-fields (timestamp_as l) x refl year-is refl refl refl refl refl offset-is refl fraction-is

timestamp-as : (x : Timestamp) (r : List ℕ) → well_formed x ≡ true → scalar_of (encode_scalar (timestamp x) ++ r) ≡ some (timestamp x, length (encode_scalar (timestamp x)))
unfolding scalar_of encode_scalar encode_timestamp timestamp_of le_bytes
timestamp-as x r h =
    let fits : 16 ≤ length (encode_scalar (timestamp x) ++ r) = omega arith in
    rw (le-leb 16 (length (encode_scalar (timestamp x) ++ r)) fits) (ap (λ (t : Timestamp). some (timestamp t, 16)) (timestamp-fields x r h))

pub scalar_as : (s : Scalar) (r : List ℕ) → FineScalar s → scalar_of (encode_scalar s ++ r) ≡ some (s, length (encode_scalar s))
unfolding scalar_of encode_scalar encode_sym symbol_of sized_of
scalar_as (null t) r h = null_as t r h
scalar_as (bool b) r h = bool_as b r
scalar_as (int n) r h = int_as n r h
scalar_as (float x) r h = float-as x r h
scalar_as (decimal neg m e) r h = decimal_as neg m e r h.0 h.1
scalar_as (timestamp x) r h = timestamp-as x r h
scalar_as (symbol (Sym.text s)) r h = rw (sym_as (Sym.text s) r h)
scalar_as (symbol (Sym.id n)) r h = rw (sym_as (Sym.id n) r h)
scalar_as (string s) r h = rw (text_as 8 s r h.plain.short)
scalar_as (clob s) r h = rw (text_as 9 s r h.short)
scalar_as (blob s) r h = rw (text_as 15 s r h.short)

-- ---- nothing is wrong with well-formed contents

text_right : (s : List ℕ) → FineText s → text_fault s ≡ 0
unfolding text_fault
text_right s h = rw h.utf8

sym_right : (s : Sym) → FineSym s → sym_fault s ≡ 0
sym_right (Sym.text s) h = text_right s h
sym_right (Sym.id n) h = refl

syms_right : (ss : List Sym) → FineSyms ss → syms_fault ss ≡ 0
unfolding syms_fault
syms_right [] h = refl
syms_right (s ∷ ss) h = rw (sym_right s h.0, syms_right ss h.1)

name_right : (k : Frame) (a : Option Sym) → FineName k a → name_fault a ≡ 0
name_right k none h = refl
name_right Top (some s) h = absurd h
name_right ListF (some s) h = absurd h
name_right Sexp (some s) h = absurd h
name_right Struct (some s) h = sym_right s h

head_right : (k : Frame) (h : Head) → FineHead k h → head_fault h ≡ 0
unfolding head_fault
head_right k (a, ss) f = rw (name_right k a f.name, syms_right ss f.notes)

scalar_right : (s : Scalar) → FineScalar s → scalar_fault s ≡ 0
unfolding scalar_fault
scalar_right (null t) h = refl
scalar_right (bool b) h = refl
scalar_right (int n) h = refl
scalar_right (float x) h = (float-bits_as x h).2
scalar_right (decimal neg m e) h = refl
scalar_right (timestamp x) h = rw h
scalar_right (symbol s) h = sym_right s h
scalar_right (string s) h = text_right s h
scalar_right (clob s) h = refl
scalar_right (blob s) h = refl

-- ---- values

-- a scalar's kind is no container's, no annotation's and no marker's
scalar-kind : (s : Scalar) (r : List ℕ) → (k : ℕ) → 10 ≤ k → k ≤ 14 → kind (encode_scalar s ++ r) ≡ k → ⊥
unfolding encode_scalar encode_sym
scalar-kind (null t) r k h g q = omega arith
scalar-kind (bool b) r k h g q = omega arith
scalar-kind (int n) r k h g q = omega arith
scalar-kind (float x) r k h g q = omega arith
scalar-kind (decimal neg m e) r k h g q = omega arith
scalar-kind (timestamp x) r k h g q = omega arith
scalar-kind (symbol (Sym.text s)) r k h g q = omega arith
scalar-kind (symbol (Sym.id n)) r k h g q = omega arith
scalar-kind (string s) r k h g q = omega arith
scalar-kind (clob s) r k h g q = omega arith
scalar-kind (blob s) r k h g q = omega arith

-- a value's kind is no annotation's
pub kind_as : (n : Node) (r : List ℕ) → kind (encode n ++ r) ≡ 13 → ⊥
unfolding encode
kind_as (scalar s) r e = scalar-kind s r 13 (omega arith) (omega arith) e
kind_as (nest Top ns) r e = omega arith
kind_as (nest ListF ns) r e = omega arith
kind_as (nest Sexp ns) r e = omega arith
kind_as (nest Struct ns) r e = omega arith
kind_as marker r e = omega arith

pub value_as : (f : Bool) (s : Scalar) (r : List ℕ) → FineScalar s → value_of f (encode (scalar s) ++ r) ≡ leaf (scalar s) (length (encode (scalar s)))
unfolding encode
value_as f s r h =
    let n = scalar-kind s r in
    value-scalar f (encode_scalar s ++ r) (n 10 (omega arith) (omega arith)) (n 11 (omega arith) (omega arith)) (n 12 (omega arith) (omega arith)) (n 14 (omega arith) (omega arith))
    ∙ ap (λ (o : Option (Scalar × ℕ)). reading {B = Value} o absent (λ s n. leaf (scalar s) n)) (scalar_as s r h)

pub nest_as : (f : Bool) (k : Frame) (ns : Nodes) (r : List ℕ) → Inner k → length (encodes ns) < 2 ^ 32 → value_of f (encode (nest k ns) ++ r) ≡ body k (length (encodes ns))
unfolding encode value_of open_of
nest_as f k ns r i h = go k i
  where
    fits : (t : ℕ) → 5 + length (encodes ns) ≤ length (t ∷ ((le_bytes 4 (length (encodes ns)) ++ encodes ns) ++ r))
    fits t =
        let a = length-le 4 (length (encodes ns)) in
        let b = length-append (le_bytes 4 (length (encodes ns))) (encodes ns) in
        let c = length-append (le_bytes 4 (length (encodes ns)) ++ encodes ns) r in
        omega arith

    number : le_number 4 ((le_bytes 4 (length (encodes ns)) ++ encodes ns) ++ r) ≡ length (encodes ns)
    number = ap (le_number 4) (append_assoc (le_bytes 4 (length (encodes ns))) (encodes ns) r) ∙ le-number 4 (length (encodes ns)) (encodes ns ++ r) h

    one : (j : Frame) (t : ℕ) → open_of j (t ∷ ((le_bytes 4 (length (encodes ns)) ++ encodes ns) ++ r)) ≡ body j (length (encodes ns))
    one j t = rw (number, le-leb (5 + length (encodes ns)) (length (t ∷ ((le_bytes 4 (length (encodes ns)) ++ encodes ns) ++ r))) (fits t))

    go : (k : Frame) → Inner k → value_of f (tag k ∷ ((le_bytes 4 (length (encodes ns)) ++ encodes ns) ++ r)) ≡ body k (length (encodes ns))
    go Top i = absurd i
    go ListF i = one ListF 10
    go Sexp i = one Sexp 11
    go Struct i = one Struct 12

marker_as : (k : Frame) (h : Head) (r : List ℕ) → FineName k h.0 → FineMarker k h.1 → value_of (free_at k (encode_head h ++ encode marker ++ r)) (encode marker ++ r) ≡ leaf marker 1
unfolding encode encode_head encode_name encode_notes free_at value_of
marker_as Top (none, []) r a b = refl
marker_as Top (some s, []) r a b = absurd a
marker_as Top (n, s ∷ ss) r a b = absurd b
marker_as ListF h r a b = absurd b
marker_as Sexp h r a b = absurd b
marker_as Struct h r a b = absurd b

-- ---- children

module _ (k : Frame) (h : Head) (n : Node) (r : List ℕ) (fine : FineHead k h) where
  child_as : (v : Value) → value_of (free_at k (encode_head h ++ encode n ++ r)) (encode n ++ r) ≡ v → child_of k (encode_head h ++ encode n ++ r) ≡ headed_child h (length (encode_head h)) v
  unfolding child_of
  child_as v e =
      let a = append_assoc (encode_head h) (encode n) r in
      let f = free_at k (encode_head h ++ encode n ++ r) in
      ap (λ (x : List ℕ). reading (head_of k x) bad (λ g m. headed_child g m (value_of f (drop m x)))) a
      ∙ ap (λ (o : Option (Head × ℕ)). reading o bad (λ g m. headed_child g m (value_of f (drop m (encode_head h ++ (encode n ++ r)))))) (head_as k h (encode n ++ r) fine (kind_as n r))
      ∙ ap (λ (x : List ℕ). headed_child h (length (encode_head h)) (value_of f x)) (drop-append_seam (encode_head h) (encode n ++ r))
      ∙ ap (headed_child h (length (encode_head h))) e

-- ---- the walk

module _ (d : ℕ) (k : Frame) (h : Head) (n : Node) (ns : Nodes) (fine : FineHead k h) (ih : walk (suc d) k (encodes ns) ≡ (ns, 0)) where
  leaf_as : value_of (free_at k (encode_head h ++ encode n ++ encodes ns)) (encode n ++ encodes ns) ≡ leaf n (length (encode n)) → fault n ≡ 0 → 0 < length (encode n)
      → walk (suc d) k (encode_head h ++ encode n ++ encodes ns) ≡ (more h n ns, 0)
  leaf_as v z p =
      let m : ℕ = length (encode_head h) + length (encode n) in
      let a = length-append (encode_head h) (encode n) in
      let b = length-append (encode_head h ++ encode n) (encodes ns) in
      walk_leaf k (suc d) (encode_head h ++ encode n ++ encodes ns) (λ e. omega arith) h n m (omega arith) (omega arith) (child_as k h n (encodes ns) fine (leaf n (length (encode n))) v)
      ∙ ap (λ (i : ℕ). join h n (fault n) (walk (suc d) k (drop i (encode_head h ++ encode n ++ encodes ns)))) (sym a)
      ∙ ap (λ (x : List ℕ). join h n (fault n) (walk (suc d) k x)) (drop-append_seam (encode_head h ++ encode n) (encodes ns))
      ∙ ap (λ (w : Walked). join h n (fault n) w) ih
      ∙ ap (λ (i : ℕ). join h n i (ns, 0)) z
      ∙ ap (λ (i : ℕ). (more h n ns, first (first i 0) 0)) (head_right k h fine)

tree_as : (d : ℕ) (k : Frame) (h : Head) (f : Frame) (ms ns : Nodes) → FineHead k h → Inner f → length (encodes ms) < 2 ^ 32
    → walk (suc d) f (encodes ms) ≡ (ms, 0) → walk (suc (suc d)) k (encodes ns) ≡ (ns, 0) → walk (suc (suc d)) k (encode_head h ++ encode (nest f ms) ++ encodes ns) ≡ (more h (nest f ms) ns, 0)
unfolding encode
tree_as d k h f ms ns fine fd fe inner ih =
    let n : Node = nest f ms in
    let e : List ℕ = encodes ms in
    let l : List ℕ = encode_head h ++ encode n ++ encodes ns in
    let p : List ℕ = encode_head h ++ (tag f ∷ le_bytes 4 (length e)) in
    let q : ℕ = length (encode_head h) + 5 in
    let m : ℕ = length e in
    let four = length-le 4 (length e) in
    let a₁ = length-append (encode_head h) (encode n) in
    let a₂ = length-append (encode_head h ++ encode n) (encodes ns) in
    let a₃ : length p ≡ q = let x = length-append (encode_head h) (tag f ∷ le_bytes 4 (length e)) in omega arith in
    let a₄ : length (encode n) ≡ 5 + length e = let x = length-append (le_bytes 4 (length e)) e in omega arith in
    let down : suc (suc d) - 1 ≡ suc d = omega arith in
    let whole : q + m ≡ length (encode_head h ++ encode n) = omega arith in
    let split : l ≡ p ++ (e ++ encodes ns) =
    ap (λ (x : List ℕ). x ++ encodes ns) (sym (append_assoc (encode_head h) (tag f ∷ le_bytes 4 (length e)) e)) ∙ append_assoc p e (encodes ns) in
    let body_is : take m (drop q l) ≡ e =
    ap (λ (x : List ℕ). take m (drop q x)) split ∙ ap (take m) (drop_at p (e ++ encodes ns) q a₃) ∙ take-append_seam e (encodes ns) in
    let rest-is : drop (q + m) l ≡ encodes ns = ap (λ (i : ℕ). drop i l) whole ∙ drop-append_seam (encode_head h ++ encode n) (encodes ns) in
    let both : ℕ → List ℕ → List ℕ → Walked = λ i x y. join h (nest f (walk i f x).0) (walk i f x).1 (walk (suc (suc d)) k y) in
    walk_tree k (suc (suc d)) l (λ z. omega arith) h f q m (omega arith) (omega arith) (child_as k h n (encodes ns) fine (body f m) (nest_as _ f ms (encodes ns) fd fe))
    ∙ ap (λ (i : ℕ). both i (take m (drop q l)) (drop (q + m) l)) down
    ∙ ap (λ (x : List ℕ). both (suc d) x (drop (q + m) l)) body_is
    ∙ ap (λ (x : List ℕ). both (suc d) e x) rest-is
    ∙ ap (λ (w : Walked). join h (nest f w.0) w.1 (walk (suc (suc d)) k (encodes ns))) inner
    ∙ ap (λ (w : Walked). join h (nest f ms) 0 w) ih
    ∙ ap (λ (i : ℕ). (more h (nest f ms) ns, first (first i 0) 0)) (head_right k h fine)

-- every node has a kind byte
node_long : (n : Node) → 0 < length (encode n)
unfolding encode encode_scalar encode_sym
node_long (scalar (null t)) = omega arith
node_long (scalar (bool b)) = omega arith
node_long (scalar (int n)) = omega arith
node_long (scalar (float x)) = omega arith
node_long (scalar (decimal neg m e)) = omega arith
node_long (scalar (timestamp x)) = omega arith
node_long (scalar (symbol (Sym.text s))) = omega arith
node_long (scalar (symbol (Sym.id n))) = omega arith
node_long (scalar (string s)) = omega arith
node_long (scalar (clob s)) = omega arith
node_long (scalar (blob s)) = omega arith
node_long (nest k ns) = omega arith
node_long marker = omega arith

abbrev Trees : ℕ → Type 0
Trees d = (k : Frame) (h : Head) (f : Frame) (ms ns : Nodes) → FineHead k h → Fine d k h.1 (nest f ms)
    → walk (suc d) k (encodes ns) ≡ (ns, 0) → walk (suc d) k (encode_head h ++ encode (nest f ms) ++ encodes ns) ≡ (more h (nest f ms) ns, 0)

level_as : (d : ℕ) → Trees d → (k : Frame) (ns : Nodes) → Fines d k ns → walk (suc d) k (encodes ns) ≡ (ns, 0)
unfolding encodes encode Fines Fine
level_as d deep k nil fine = walk_end k (suc d) [] (λ e. omega arith) (omega arith)
level_as d deep k (more h (scalar s) ns) (a, f, g) = leaf_as d k h (scalar s) ns a (level_as d deep k ns g) (value_as _ s (encodes ns) f) (scalar_right s f) (node_long (scalar s))
level_as d deep k (more h (nest j ms) ns) (a, f, g) = deep k h j ms ns a f (level_as d deep k ns g)
level_as d deep k (more h marker ns) (a, f, g) = leaf_as d k h marker ns a (level_as d deep k ns g) (marker_as k h (encodes ns) a.name f) refl (omega arith)

-- THE SECOND THEOREM: a well-formed tree's encoding is accepted as that tree
pub accepted : (d : ℕ) (k : Frame) (ns : Nodes) → Fines d k ns → walk (suc d) k (encodes ns) ≡ (ns, 0)
unfolding Fine
accepted zero k ns fine = level_as zero (λ k h f ms ns a g ih. absurd g) k ns fine
accepted (suc d) k ns fine = level_as (suc d) (λ k h f ms ns a g ih. tree_as d k h f ms ns a g.0 g.1 (accepted d f ms g.2) ih) k ns fine

-- ---- whole tapes

size_most : (ns : Nodes) → size ns ≤ length (encodes ns)
unfolding size encodes
size_most nil = omega arith
size_most (more h n ns) =
    let a = length-append (encode_head h) (encode n) in
    let b = length-append (encode_head h ++ encode n) (encodes ns) in
    let c = node_long n in
    let ih = size_most ns in
    omega arith

module _ (ns : Nodes) where
  pub tape-length : length (tape ns) ≡ length (encodes ns) + 8
  unfolding tape
  tape-length =
      let a = length-append (encodes ns ++ le_bytes 4 (length (encodes ns))) (le_bytes 4 (size ns)) in
      let b = length-append (encodes ns) (le_bytes 4 (length (encodes ns))) in
      let c = length-le 4 (length (encodes ns)) in
      let d = length-le 4 (size ns) in
      omega arith

  tape_body : take (length (tape ns) - 8) (tape ns) ≡ encodes ns
  unfolding tape
  tape_body =
      let e : List ℕ = encodes ns in
      let n : length e ≡ length (tape ns) - 8 = let t = tape-length in omega arith in
      ap (take (length (tape ns) - 8)) (append_assoc e (le_bytes 4 (length e)) (le_bytes 4 (size ns))) ∙ take_at e (le_bytes 4 (length e) ++ le_bytes 4 (size ns)) (length (tape ns) - 8) n

  tape_said : length (encodes ns) < 2 ^ 32 → le_number 4 (drop (length (tape ns) - 8) (tape ns)) ≡ length (encodes ns)
  unfolding tape
  tape_said h =
      let e : List ℕ = encodes ns in
      let n : length e ≡ length (tape ns) - 8 = let t = tape-length in omega arith in
      ap (λ (x : List ℕ). le_number 4 (drop (length (tape ns) - 8) x)) (append_assoc e (le_bytes 4 (length e)) (le_bytes 4 (size ns)))
      ∙ ap (le_number 4) (drop_at e (le_bytes 4 (length e) ++ le_bytes 4 (size ns)) (length (tape ns) - 8) n)
      ∙ le-number 4 (length e) (le_bytes 4 (size ns)) h

  tape_counts : length (encodes ns) < 2 ^ 32 → le_number 4 (drop (length (tape ns) - 4) (tape ns)) ≡ size ns
  unfolding tape
  tape_counts h =
      let e : List ℕ = encodes ns in
      let n : length (e ++ le_bytes 4 (length e)) ≡ length (tape ns) - 4 = let t = tape-length in let b = length-append e (le_bytes 4 (length e)) in let c = length-le 4 (length e) in omega arith in
      let s = size_most ns in
      ap (le_number 4) (drop_at (e ++ le_bytes 4 (length e)) (le_bytes 4 (size ns)) (length (tape ns) - 4) n)
      ∙ ap (le_number 4) (sym (append-nil (le_bytes 4 (size ns))))
      ∙ le-number 4 (size ns) [] (omega arith)

  tape-walked : Fines 64 Top ns → body_of (tape ns) ≡ (ns, 0)
  unfolding body_of
  tape-walked fine = ap (walk 65 Top) tape_body ∙ accepted 64 Top ns fine

  pub tape_accepted : Fines 64 Top ns → length (tape ns) ≤ 1048576 → verdict (tape ns) ≡ 0
  unfolding verdict misfit count_fault
  tape_accepted fine h =
      let t = tape-length in
      let short : length (encodes ns) < 2 ^ 32 = omega arith in
      rw (tape-walked fine, tape_said short, tape_counts short, le-ltb (length (tape ns)) 8 (omega arith), le-ltb 1048576 (length (tape ns)) h, eq-eqb (length (encodes ns) + 8) (length (tape ns)) (sym t), eq-eqb (size ns) (size ns) refl)

  pub tape_nodes : Fines 64 Top ns → nodes_of (tape ns) ≡ ns
  unfolding nodes_of
  tape_nodes fine = ap (λ (w : Walked). w.0) (tape-walked fine)
