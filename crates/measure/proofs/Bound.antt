-- How long a text is at most, by the length of its tape. Assumes nothing.
use Prim.Native.Nat.{ℕ, zero, suc, ◌+◌, ◌*◌, ◌≤◌}
use mathlib.Core.Path.{◌≡◌, refl, ap, subst}
use mathlib.Core.List.{List, [], ◌∷◌}
use mathlib.Core.Bool.{Bool, true, false}
use mathlib.Core.Option.{Option, none, some}
use native.Mathlib.Omega.{arith}
use lib.Dec.{eqb}
use lib.ListN.{length, length-append}
use borrow.Author.Tests.{ne_eqb, le-ltb}
use Rattle.output.specs.Logic.{if, byte, ascii}
use Rattle.output.specs.Wrote.{le_bytes}
use Rattle.output.proofs.Laws.{length-le}
use Rattle.text_rules.specs.Escapes.{clob_body}
use Rattle.text_rules.specs.Text.{Sym, string_text, clob_text, type_name, null_text, bool_text}
use Rattle.numbers.specs.declared.timestamp.Timestamp.{Timestamp}
use Rattle.numbers.specs.Timestamp.{well_formed}
use Rattle.floats.proofs.FloatLaws.{float_most}
use Rattle.tape.specs.Bytes.{first}
use Rattle.tape.specs.Tree.{Scalar, Head, Node, Nodes, null, bool, int, float, decimal, timestamp, symbol, string, clob, blob, scalar, nest, marker, nil, more, size, sized, encode_timestamp, encode_sym, encode_scalar, encode_syms, encode_name, encode_notes, encode_head, encode, encodes, tape}
use Rattle.tape.specs.Tape.{scalar_fault, nodes_of}
use Rattle.tape.specs.Fine.{Bytes, FineScalar, Fine, Fines}
use Rattle.tape.specs.Verdict.{verdict}
use Rattle.tape.specs.Refusal.{noteds}
use Rattle.tape.specs.Answer.{Outcome, counted, ended, refused, number_of}
use Rattle.tape.specs.declared.Frame.{Frame}
use Rattle.tape.specs.declared.Frame.TheVariants.{Top, List as ListF, Sexp, Struct}
use Rattle.tape.proofs.Walking.{first-zero, if_zero_else, tape_back}
use Rattle.tape.proofs.FineBack.{tape_fine}
use Rattle.writer.specs.Text.{sym_text, scalar_text, name_text, notes_text, opening, closing, separator, broken, deeper, stream_text}
use Rattle.writer.specs.Outcome.{refusal, answered}
use Rattle.measure.specs.Sums.{front_length, contents_of, contents, separator_length, separators_of, separators, indents_of, indents}
use Rattle.measure.specs.Outcome.{text_length_with, longest}
use Rattle.measure.proofs.EscapeLengths.{quoted_most, symbol_most, clob_body_most, blob_text_length}
use Rattle.measure.proofs.NumberLengths.{int_most, decimal_most, timestamp_most, id_most}
use Rattle.measure.proofs.TextSums.{length-3, stream_sums}

-- ---- scalars and symbols

if_most : {m : ℕ} (b : Bool) (x y : List ℕ) → length x ≤ m → length y ≤ m → length (if b x y) ≤ m
if_most true x y h g = h
if_most false x y h g = g

clob_most : (s : List ℕ) → length (clob_text s) ≤ 4 * length s + 6
unfolding clob_text
clob_most s =
    let a = length-3 (ascii "{{\"") (clob_body s) (ascii "\"}}") in
    let b = clob_body_most s in
    omega arith

type_most : (t : ℕ) → length (type_name t) ≤ 9
unfolding type_name
type_most t =
    if_most (eqb t 0) _ _ (omega arith) (if_most (eqb t 1) _ _ (omega arith) (if_most (eqb t 2) _ _ (omega arith) (if_most (eqb t 3) _ _ (omega arith)
    (if_most (eqb t 4) _ _ (omega arith) (if_most (eqb t 5) _ _ (omega arith) (if_most (eqb t 6) _ _ (omega arith) (if_most (eqb t 7) _ _ (omega arith)
    (if_most (eqb t 8) _ _ (omega arith) (if_most (eqb t 9) _ _ (omega arith) (if_most (eqb t 10) _ _ (omega arith) (if_most (eqb t 11) _ _ (omega arith)
    (if_most (eqb t 12) _ _ (omega arith) (omega arith)))))))))))))

null_most : (t : ℕ) → length (null_text t) ≤ 14
unfolding null_text
null_most t = if_most (eqb t 0) _ _ (omega arith) (let a = type_most t in omega arith)

bool_most : (b : Bool) → length (bool_text b) ≤ 5
unfolding bool_text
bool_most b = if_most b _ _ (omega arith) (omega arith)

sized_long : (s : List ℕ) → length (sized s) ≡ 4 + length s
unfolding sized
sized_long s =
    let a = length-append (le_bytes 4 (length s)) s in
    let b = length-le 4 (length s) in
    omega arith

-- a symbol with the two bytes behind it, or a separator, and two more
sym_most : (quoted : Bool) (s : Sym) → length (sym_text quoted s) + 4 ≤ longest (length (encode_sym s))
unfolding sym_text encode_sym
sym_most quoted (Sym.text s) = let a = symbol_most quoted s in let b = sized_long s in omega arith
sym_most quoted (Sym.id n) = let a = id_most n in let b = length-le 4 n in omega arith

-- a timestamp stands in the calendar
abbrev Dated : Scalar → Type 0
Dated s = (x : Timestamp) → s ≡ timestamp x → well_formed x ≡ true

fine_dated : (s : Scalar) → FineScalar s → Dated s
fine_dated s f x e = subst FineScalar e f

module _ (quoted : Bool) where
  -- a scalar and its separator
  scalar_most : (s : Scalar) → Dated s → length (scalar_text quoted s) + 2 ≤ longest (length (encode_scalar s))
  unfolding scalar_text encode_scalar encode_timestamp string_text le_bytes
  scalar_most (null t) f = let a = null_most t in omega arith
  scalar_most (bool b) f = let a = bool_most b in omega arith
  scalar_most (int n) f = let a = int_most n in omega arith
  scalar_most (float x) f = let a = float_most x in omega arith
  scalar_most (decimal neg m e) f = let a = decimal_most neg m e in omega arith
  scalar_most (timestamp x) f = let a = timestamp_most x (f x refl) in omega arith
  scalar_most (symbol s) f = let a = sym_most quoted s in omega arith
  scalar_most (string s) f = let a = quoted_most (byte "\"") s in let b = sized_long s in omega arith
  scalar_most (clob s) f = let a = clob_most s in let b = sized_long s in omega arith
  scalar_most (blob s) f = let a = blob_text_length s in let b = sized_long s in omega arith

  pub sound_most : (s : Scalar) → scalar_fault s ≡ 0 → length (scalar_text quoted s) + 2 ≤ longest (length (encode_scalar s))
  unfolding scalar_fault
  sound_most s z = scalar_most s (λ x e. if_zero_else (well_formed x) 1 (subst (λ (s : Scalar). scalar_fault s ≡ 0) e z))

  -- ---- what stands before a value

  pub name_most : (a : Option Sym) → length (name_text quoted a) ≤ longest (length (encode_name a))
  unfolding name_text encode_name
  name_most none = omega arith
  name_most (some s) = let a = sym_most quoted s in let b = length-append (sym_text quoted s) (ascii ": ") in omega arith

  syms_most : (ss : List Sym) → length (notes_text quoted ss) ≤ longest (length (encode_syms ss))
  unfolding notes_text encode_syms
  syms_most [] = omega arith
  syms_most (s ∷ ss) =
      let a = sym_most quoted s in
      let b = length-3 (sym_text quoted s) (ascii "::") (notes_text quoted ss) in
      let c = length-append (encode_sym s) (encode_syms ss) in
      let d = syms_most ss in
      omega arith

  pub notes_most : (ss : List Sym) → length (notes_text quoted ss) ≤ longest (length (encode_notes ss))
  unfolding encode_notes notes_text
  notes_most [] = omega arith
  notes_most (s ∷ ss) = let a = syms_most (s ∷ ss) in omega arith

  front_most : (h : Head) → front_length quoted h ≤ longest (length (encode_head h))
  unfolding encode_head
  front_most h =
      let a = name_most h.0 in
      let b = notes_most h.1 in
      let c = length-append (encode_name h.0) (encode_notes h.1) in
      omega arith

-- ---- nodes

pub gap_most : (k : Frame) → separator_length k ≤ 2
unfolding separator
gap_most Top = omega arith
gap_most ListF = omega arith
gap_most Sexp = omega arith
gap_most Struct = omega arith

brackets_most : (k : Frame) → length (opening k) + length (closing k) ≤ 2
unfolding opening closing
brackets_most Top = omega arith
brackets_most ListF = omega arith
brackets_most Sexp = omega arith
brackets_most Struct = omega arith

-- a container has its kind and its length before its body
nest_long : (k : Frame) (ns : Nodes) → length (encode (nest k ns)) ≡ 5 + length (encodes ns)
unfolding encode
nest_long k ns =
    let a = length-append (le_bytes 4 (length (encodes ns))) (encodes ns) in
    let b = length-le 4 (length (encodes ns)) in
    omega arith

more_long : (h : Head) (n : Node) (ns : Nodes) → length (encodes (more h n ns)) ≡ length (encode_head h) + length (encode n) + length (encodes ns)
unfolding encodes
more_long h n ns = length-3 (encode_head h) (encode n) (encodes ns)

-- nine times the bytes: a marker and its separator are nine bytes, and one on the tape
module _ (quoted : Bool) where
  mutual
    unfolding contents_of contents separators_of separators encode encodes separator Fine Fines

    node_most : (d : ℕ) (k : Frame) (ss : List Sym) (n : Node) → Fine d k ss n → contents_of quoted n + separators_of n + separator_length k ≤ longest (length (encode n))
    node_most d k ss (scalar s) f = let a = scalar_most quoted s (fine_dated s f) in let b = gap_most k in omega arith
    node_most zero k ss (nest g ns) f = absurd f
    node_most (suc d) k ss (nest g ns) f =
        let a = nodes_most d g ns f.2 in
        let b = brackets_most g in
        let c = gap_most k in
        let e = nest_long g ns in
        omega arith
    node_most d Top [] marker f = omega arith
    node_most d Top (s ∷ ss) marker f = absurd f
    node_most d ListF ss marker f = absurd f
    node_most d Sexp ss marker f = absurd f
    node_most d Struct ss marker f = absurd f

    pub nodes_most : (d : ℕ) (k : Frame) (ns : Nodes) → Fines d k ns → contents quoted ns + separators k ns ≤ longest (length (encodes ns))
    nodes_most d k nil f = omega arith
    nodes_most d k (more h n ns) f =
        let a = front_most quoted h in
        let b = node_most d k h.1 n f.1 in
        let c = nodes_most d k ns f.2 in
        let e = more_long h n ns in
        omega arith

-- Pretty's indentation: d containers may be opened inside, each by two blanks more
mutual
  unfolding indents_of indents broken deeper encode encodes Fine Fines

  node_indents : (d w : ℕ) (k : Frame) (ss : List Sym) (n : Node) → w + 2 * d ≤ 130 → Fine d k ss n → w + indents_of w n ≤ 130 * length (encode n)
  node_indents d w k ss (scalar s) h f = let a = scalar_most false s (fine_dated s f) in omega arith
  node_indents zero w k ss (nest g ns) h f = absurd f
  node_indents (suc d) w k ss (nest g ns) h f =
      let a = nodes_indents d (w + 2) g ns (omega arith) f.2 in
      let b = nest_long g ns in
      omega arith
  node_indents d w k ss marker h f = omega arith

  pub nodes_indents : (d w : ℕ) (k : Frame) (ns : Nodes) → w + 2 * d ≤ 130 → Fines d k ns → indents w ns ≤ 130 * length (encodes ns)
  nodes_indents d w k nil h f = omega arith
  nodes_indents d w k (more g n ns) h f =
      let a = node_indents d w k g.1 n h f.1 in
      let b = nodes_indents d w k ns h f.2 in
      let c = more_long g n ns in
      omega arith

-- ---- an accepted tape

module _ (t : List ℕ) (b : Bytes t) (v : verdict t ≡ 0) where
  nodes_long : length (encodes (nodes_of t)) + 8 ≡ length t
  unfolding tape
  nodes_long =
      let n : ℕ = length (encodes (nodes_of t)) in
      let a = length-3 (encodes (nodes_of t)) (le_bytes 4 n) (le_bytes 4 (size (nodes_of t))) in
      let c = length-le 4 n in
      let d = length-le 4 (size (nodes_of t)) in
      let e = ap (λ (l : List ℕ). length l) (tape_back t b v) in
      omega arith

  pub tape_indents : indents 0 (nodes_of t) ≤ 130 * length t
  tape_indents = let a = nodes_indents 64 0 Top (nodes_of t) (omega arith) (tape_fine t b v) in let n = nodes_long in omega arith

pub tape_most : (quoted : Bool) (t : List ℕ) → Bytes t → verdict t ≡ 0 → contents quoted (nodes_of t) + separators Top (nodes_of t) ≤ longest (length t)
tape_most quoted t b v = let a = nodes_most quoted 64 Top (nodes_of t) (tape_fine t b v) in let n = nodes_long t b v in omega arith

-- ---- how long an answer is at most

abbrev count_of : Outcome → ℕ
count_of (counted n) = n
count_of ended = 0
count_of (refused n) = 0

-- what is counted is not refused
count-told : (r m n : ℕ) → answered r (counted m) ≡ counted n → (r ≡ 0) × (m ≡ n)
count-told zero m n e = (refl, ap count_of e)
count-told (suc r) m n e = let z = ap number_of e in absurd (omega arith)

unnoted : (b : Bool) → if {A = ℕ} b 5 0 ≡ 0 → b ≡ false
unnoted true e = absurd (omega arith)
unnoted false e = refl

-- THE BOUND: a text in Compact or Lines has at most nine bytes for one of its tape
pub length_bound : (quoted : Bool) (y : ℕ) (t : List ℕ) (n : ℕ) → Bytes t → y ≤ 1 → text_length_with quoted y t ≡ counted n → n ≤ longest (length t)
unfolding text_length_with refusal
length_bound quoted y t n b h e =
    let c = count-told (refusal y t) (length (stream_text quoted y (nodes_of t))) n e in
    let f : first (verdict t) (if (noteds (nodes_of t)) 5 0) ≡ 0 = rw (le-ltb 2 y (omega arith)) at c.0 in
    let z = first-zero (verdict t) (if (noteds (nodes_of t)) 5 0) f in
    let s = stream_sums quoted y (nodes_of t) (unnoted (noteds (nodes_of t)) z.1) in
    let l : length (stream_text quoted y (nodes_of t)) ≡ contents quoted (nodes_of t) + separators Top (nodes_of t) + 0 = rw (ne_eqb y 2 (λ q. omega arith)) at s in
    let m = tape_most quoted t b z.0 in
    let q = c.1 in
    omega arith
