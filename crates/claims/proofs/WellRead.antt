-- What a text means is well-formed, if the bytes of its tape are not too many. So what was read and is written again reads as the same.
-- Assumes nothing.
use Prim.Native.Nat.{ℕ, zero, suc, ◌*◌, ◌^◌, ◌≤◌, ◌<◌}
use mathlib.Core.Path.{◌≡◌, refl, subst}
use mathlib.Core.List.{List, [], ◌∷◌, ◌++◌}
use mathlib.Core.Bool.{Bool, true, false, ◌&&◌}
use mathlib.Core.Option.{Option, none, some}
use native.Mathlib.Omega.{arith}
use lib.Dec.{eqb}
use lib.Ieee.{nan}
use lib.ListN.{length, drop, length-append}
use Rattle.output.specs.Logic.{if, then, on, byte, ascii}
use Rattle.output.specs.Wrote.{le_bytes}
use Rattle.text_rules.specs.Texts.{starts, strip}
use Rattle.text_rules.specs.Words.{word, behind_word, kind_of}
use Rattle.text_rules.specs.Text.{Sym}
use Rattle.text_rules.specs.declared.words.Kind.{Kind}
use Rattle.text_rules.specs.declared.words.Kind.TheVariants.{Null, True, False, Nan, Marker, Number, Text, Refused}
use Rattle.tokens.specs.Quoted.{string, clob}
use Rattle.tokens.specs.Blob.{blob}
use Rattle.tokens.specs.Token.{symbol, null_behind}
use Rattle.floats.specs.Float.{float}
use Rattle.numbers.specs.Numeral.{Numeral, numeral}
use Rattle.numbers.specs.Timestamp.{well_formed}
use Rattle.numbers.specs.TimestampRead.{timestamp}
use Rattle.tape.specs.Tree.{Scalar, Head, Node, Nodes, nest, more, encode_sym, encode_syms, encode_name, encode_notes, encode_head, encode, encodes}
use Rattle.tape.specs.Fine.{Bytes, FineSyms, FineScalar, FineName, FineHead, FineMarker, FineFloat, Inner, Fine, Fines}
use Rattle.tape.specs.declared.Frame.{Frame}
use Rattle.tape.specs.declared.Frame.TheVariants.{Top, List as ListF, Sexp, Struct}
use Rattle.reader.specs.Grammar.{taken, skip, opener, opens, closes, gap, note, notes, field, name, head, free, by_kind, words, numeral_node, numbers, numeric, braces, scalar, within, headed, body, sequence, meaning}
use Rattle.tape.proofs.Reading.{if_all}
use Rattle.claims.specs.InRange.{Got, got-none, got, IsText, SymInRange, NumeralInRange}
use Rattle.claims.proofs.TokensRead.{got_then, got-after, got-taken, got_or, ScalarP, KindP, kind_fits, word_text, string-text, symbol-got, symbol-scalar, string-scalar, clob-scalar, blob-scalar, text_sym, clob-got, blob-got, null_got, float_got, timestamp-got, numeral-got}

-- By any raw rule.
module _ (is_raw : ℕ → Bool) where
  -- ---- heads

  abbrev SymsP : ℕ → List Sym → Type 0
  SymsP n ss = (length (encode_syms ss) < 2 ^ 32 → FineSyms ss) × (length ss ≤ n)

  note-got : (t : List ℕ) → Got SymInRange (note is_raw t)
  unfolding note
  note-got t = got_then SymInRange SymInRange (symbol is_raw t) _ (symbol-got is_raw t) (λ s p. got-after SymInRange (strip (ascii "::") s.1) _ (λ r. got p))

  syms_cons : (n : ℕ) (s : Sym) (ss : List Sym) → SymInRange s → SymsP n ss → SymsP (suc n) (s ∷ ss)
  unfolding encode_syms
  syms_cons n s ss p q = ((λ l. let a = length-append (encode_sym s) (encode_syms ss) in (p (omega arith), q.0 (omega arith))), omega (arith, q.1))

  no_syms : (n : ℕ) → SymsP n []
  no_syms n = ((λ _. tt), omega arith)

  notes-got : (n : ℕ) (t : List ℕ) → Got (SymsP n) (notes is_raw n t)
  unfolding notes
  notes-got zero t = go (note is_raw t)
    where
      go : (o : Option (Sym × List ℕ)) → Got (SymsP 0) (on o (λ s. none) (some ([], t)))
      go none = got (no_syms _)
      go (some s) = got-none
  notes-got (suc n) t = go (note is_raw t) (note-got t) (λ u. notes-got n u)
    where
      go : (o : Option (Sym × List ℕ)) → Got SymInRange o → ((u : List ℕ) → Got (SymsP n) (notes is_raw n u)) → Got (SymsP (suc n)) (on o (λ s. then (notes is_raw n s.1) (λ ss. some (s.0 ∷ ss.0, ss.1))) (some ([], t)))
      go none g again = got (no_syms _)
      go (some s) (got p) again = got_then (SymsP n) (SymsP (suc n)) (notes is_raw n s.1) _ (again s.1) (λ ss q. got (syms_cons n s.0 ss.0 p q))

  abbrev NameP : Frame → Option Sym → Type 0
  NameP k x = length (encode_name x) < 2 ^ 32 → FineName k x

  field-got : (t : List ℕ) → Got SymInRange (field is_raw t)
  unfolding field
  field-got t = got_then SymInRange SymInRange (symbol is_raw t) _ (symbol-got is_raw t) (λ s p. got-after SymInRange (strip (ascii ":") (skip s.1)) _ (λ r. got p))

  name-some : (s : Sym) → SymInRange s → NameP Struct (some s)
  unfolding encode_name
  name-some s p l = p l

  name-got : (k : Frame) (t : List ℕ) → Got (NameP k) (name is_raw k t)
  unfolding name
  name-got Top t = got (λ _. tt)
  name-got ListF t = got (λ _. tt)
  name-got Sexp t = got (λ _. tt)
  name-got Struct t = got-taken SymInRange (NameP Struct) some name-some (field is_raw t) (field-got t)

  abbrev HeadP : Frame → Head → Type 0
  HeadP k h = length (encode_head h) < 2 ^ 32 → FineHead k h

  notes_long : (ss : List Sym) → length (encode_syms ss) ≤ length (encode_notes ss)
  unfolding encode_notes encode_syms
  notes_long [] = omega arith
  notes_long (s ∷ ss) = omega arith

  head_pair : (k : Frame) (x : Option Sym) (ss : List Sym) → NameP k x → SymsP 16 ss → HeadP k (x, ss)
  unfolding encode_head
  head_pair k x ss p q l =
      let a = length-append (encode_name x) (encode_notes ss) in
      let b = notes_long ss in
      record { name = p (omega arith); notes = q.0 (omega arith); few = q.1 }

  head-got : (k : Frame) (t : List ℕ) → Got (HeadP k) (head is_raw k t)
  unfolding head
  head-got k t =
      got_then (NameP k) (HeadP k) (name is_raw k t) _ (name-got k t) (λ m p.
      got_then (SymsP 16) (HeadP k) (notes is_raw 16 m.1) _ (notes-got 16 m.1) (λ ss q. got (head_pair k m.0 ss.0 p q)))

  -- ---- values

  -- d: how many containers may be opened inside; k and ss: where the node stands and its annotations
  abbrev NodeP : ℕ → Frame → List Sym → Node → Type 0
  NodeP d k ss n = length (encode n) < 2 ^ 32 → Fine d k ss n

  module _ (d : ℕ) (k : Frame) (ss : List Sym) where
    scalar-node : (s : Scalar) → ScalarP s → NodeP d k ss (Node.scalar s)
    unfolding encode Fine
    scalar-node s p l = p l

    -- a token whose meaning needs no length
    token_node : {A : Type 0} (P : A → Type 0) (f : A → Scalar) → ((a : A) → P a → FineScalar (f a)) → (o : Option (A × List ℕ)) → Got P o → Got (NodeP d k ss) (taken (λ x. Node.scalar (f x)) o)
    token_node P f h o g = got-taken P (NodeP d k ss) (λ x. Node.scalar (f x)) (λ a p. scalar-node (f a) (λ _. h a p)) o g

    number-got : (t : List ℕ) → Got (NodeP d k ss) (numbers t)
    unfolding numbers
    number-got t =
        got_or _ _ (token_node FineFloat Scalar.float (λ a p. p) (float t) (float_got t))
        (got_or _ _ (token_node (λ x. well_formed x ≡ true) Scalar.timestamp (λ a p. p) (timestamp t) (timestamp-got t))
        (got-taken NumeralInRange (NodeP d k ss) numeral_node numeral-node (numeral t) (numeral-got t)))
      where
        numeral-node : (a : Numeral) → NumeralInRange a → NodeP d k ss (numeral_node a)
        numeral-node (Numeral.int z) p = scalar-node (Scalar.int z) (λ _. p)
        numeral-node (Numeral.decimal neg m e) p = scalar-node (Scalar.decimal neg m e) (λ _. p)

    -- a bare word; m: a marker may stand here
    words-got : (m : Bool) (t : List ℕ) → (m ≡ true → FineMarker k ss) → Got (NodeP d k ss) (words m t)
    unfolding words
    words-got m t h = go (kind_of (word t)) (kind_fits (word t))
      where
        mark : (b : Bool) → (b ≡ true → FineMarker k ss) → Got (NodeP d k ss) (if b (some (Node.marker, behind_word t)) none)
        mark true f = unfold Fine in got (λ _. f refl)
        mark false f = got-none

        go : (w : Kind) → KindP w → Got (NodeP d k ss) (by_kind m w t)
        go Null p = token_node (λ j. j ≤ 12) Scalar.null (λ a q. q) (null_behind (behind_word t)) (null_got (behind_word t))
        go True p = got (scalar-node (Scalar.bool true) (λ _. tt))
        go False p = got (scalar-node (Scalar.bool false) (λ _. tt))
        go Nan p = got (scalar-node (Scalar.float nan) (λ _. tt))
        go Marker p = mark m h
        go (Number n) p = got (scalar-node (Scalar.symbol (Sym.id n)) (λ _. p))
        go Text p = got (scalar-node (Scalar.symbol (Sym.text (word t))) (symbol-scalar (Sym.text (word t)) (text_sym (word t) (word_text t))))
        go Refused p = got-none

    braces-got : (t : List ℕ) → Got (NodeP d k ss) (braces t)
    unfolding braces
    braces-got t =
        if_all (Got (NodeP d k ss)) {b = starts (byte "\"") (drop 2 t)}
        (λ _. got-taken Bytes (NodeP d k ss) (λ s. Node.scalar (Scalar.clob s)) (λ s p. scalar-node (Scalar.clob s) (clob-scalar s p)) (clob t) (clob-got t))
        (λ _. got-taken Bytes (NodeP d k ss) (λ s. Node.scalar (Scalar.blob s)) (λ s p. scalar-node (Scalar.blob s) (blob-scalar s p)) (blob t) (blob-got t))

    scalar-got : (m : Bool) (t : List ℕ) → (m ≡ true → FineMarker k ss) → Got (NodeP d k ss) (scalar is_raw m t)
    unfolding scalar
    scalar-got m [] h = got-none
    scalar-got m (c ∷ t) h =
        if_all (Got (NodeP d k ss)) {b = eqb c (byte "\"")} (λ _. got-taken IsText (NodeP d k ss) (λ s. Node.scalar (Scalar.string s)) (λ s p. scalar-node (Scalar.string s) (string-scalar s p)) (string is_raw (c ∷ t)) (string-text is_raw (c ∷ t))) (λ _.
        if_all (Got (NodeP d k ss)) {b = eqb c (byte "'")} (λ _. got-taken SymInRange (NodeP d k ss) (λ s. Node.scalar (Scalar.symbol s)) (λ s p. scalar-node (Scalar.symbol s) (symbol-scalar s p)) (symbol is_raw (c ∷ t)) (symbol-got is_raw (c ∷ t))) (λ _.
        if_all (Got (NodeP d k ss)) {b = eqb c (byte "{")} (λ _. braces-got (c ∷ t)) (λ _.
        if_all (Got (NodeP d k ss)) {b = numeric c} (λ _. number-got (c ∷ t)) (λ _. words-got m (c ∷ t) h))))

  -- ---- trees

  abbrev NodesP : ℕ → Frame → Nodes → Type 0
  NodesP d k ns = length (encodes ns) < 2 ^ 32 → Fines d k ns

  -- only containers are opened
  abbrev OpenP : Option Frame → Type 0
  OpenP none = Unit
  OpenP (some k) = Inner k

  opens-inner : (t : List ℕ) → OpenP (opens t)
  unfolding opens opener
  opens-inner [] = tt
  opens-inner (c ∷ t) =
      if_all OpenP {b = eqb c (byte "{") && starts (byte "{") t} (λ _. tt) (λ _.
      if_all OpenP {b = eqb c (byte "[")} (λ _. tt) (λ _. if_all OpenP {b = eqb c (byte "(")} (λ _. tt) (λ _. if_all OpenP {b = eqb c (byte "{")} (λ _. tt) (λ _. tt))))

  nest_node : (d : ℕ) (k i : Frame) (ss : List Sym) (ns : Nodes) → Inner i → NodesP d i ns → NodeP (suc d) k ss (nest i ns)
  unfolding encode Fine
  nest_node d k i ss ns h p l =
      let a = length-append (le_bytes 4 (length (encodes ns))) (encodes ns) in
      let b : length (encodes ns) < 2 ^ 32 = omega arith in
      (h, b, p b)

  more_nodes : (d : ℕ) (k : Frame) (h : Head) (n : Node) (ns : Nodes) → HeadP k h → NodeP d k h.1 n → NodesP d k ns → NodesP d k (more h n ns)
  unfolding encode Fine
  more_nodes d k h n ns p q r l =
      let a = length-append (encode_head h ++ encode n) (encodes ns) in
      let b = length-append (encode_head h) (encode n) in
      (p (omega arith), q (omega arith), r (omega arith))

  free_fine : (k : Frame) (ss : List Sym) → free k ss ≡ true → FineMarker k ss
  unfolding free
  free_fine Top [] h = tt
  free_fine Top (s ∷ ss) h = absurd (let y : ◌≡◌ {A = ℕ} 0 1 = cc in omega arith)
  free_fine ListF ss h = absurd (let y : ◌≡◌ {A = ℕ} 0 1 = cc in omega arith)
  free_fine Sexp ss h = absurd (let y : ◌≡◌ {A = ℕ} 0 1 = cc in omega arith)
  free_fine Struct ss h = absurd (let y : ◌≡◌ {A = ℕ} 0 1 = cc in omega arith)

  -- a container, by what is read inside it
  nest_got : (f : ℕ) (m : Bool) (d : ℕ) (k : Frame) (ss : List Sym) (t : List ℕ) → (m ≡ true → FineMarker k ss) → ((i : Frame) (e : ℕ) (u : List ℕ) → Got (NodesP e i) (sequence is_raw f i e u)) → Got (NodeP d k ss) (body is_raw (suc f) m d t)
  unfolding body
  nest_got f m d k ss t h again = go (opens t) (opens-inner t)
    where
      inside : (d : ℕ) (i : Frame) → Inner i → Got (NodeP d k ss) (within d (λ l. taken (Node.nest i) (sequence is_raw f i l (drop 1 t))))
      inside zero i o = got-none
      inside (suc d) i o = got-taken (NodesP d i) (NodeP (suc d) k ss) (Node.nest i) (λ ns p. nest_node d k i ss ns o p) (sequence is_raw f i d (drop 1 t)) (again i d (drop 1 t))

      go : (o : Option Frame) → OpenP o → Got (NodeP d k ss) (on o (λ i. within d (λ l. taken (Node.nest i) (sequence is_raw f i l (drop 1 t)))) (scalar is_raw m t))
      go none p = scalar-got d k ss m t h
      go (some i) p = inside d i p

  -- a child: a head and its node
  abbrev ChildP : ℕ → Frame → Head × Node → Type 0
  ChildP d k c = HeadP k c.0 × NodeP d k c.0.1 c.1

  -- a sequence, by what is read of a value and of the rest
  module _ (f : ℕ) (k : Frame) (d : ℕ) (value : (ss : List Sym) (u : List ℕ) → Got (NodeP d k ss) (body is_raw f (free k ss) d u)) (again : (u : List ℕ) → Got (NodesP d k) (sequence is_raw f k d u)) where
    headed-got : (t : List ℕ) → Got (ChildP d k) (headed is_raw (λ m u. body is_raw f m d u) k t)
    headed-got t =
        got_then (HeadP k) (ChildP d k) (head is_raw k t) _ (head-got k t) (λ h p.
        got_then (NodeP d k h.0.1) (ChildP d k) (body is_raw f (free k h.0.1) d h.1) _ (value h.0.1 h.1) (λ n q. got (p, q)))

    child_got : (t : List ℕ) → Got (NodesP d k) (then (headed is_raw (λ m u. body is_raw f m d u) k t) (λ n. then (gap k n.1) (λ u. then (sequence is_raw f k d u) (λ ns. some (Nodes.more n.0.0 n.0.1 ns.0, ns.1)))))
    child_got t =
        got_then (ChildP d k) (NodesP d k) (headed is_raw (λ m u. body is_raw f m d u) k t) _ (headed-got t) (λ c p.
        got-after (NodesP d k) (gap k c.1) _ (λ u.
        got_then (NodesP d k) (NodesP d k) (sequence is_raw f k d u) _ (again u) (λ ns r. got (more_nodes d k c.0.0 c.0.1 ns.0 p.0 p.1 r))))

    end-got : (r : List ℕ) → Got (NodesP d k) (some (Nodes.nil, r))
    unfolding Fine
    end-got r = got (λ _. tt)

    nodes_got : (t : List ℕ) → Got (NodesP d k) (sequence is_raw (suc f) k d t)
    unfolding body
    nodes_got t = go (closes k (skip t))
      where
        go : (o : Option (List ℕ)) → Got (NodesP d k) (on o (λ r. some (Nodes.nil, r)) (then (headed is_raw (λ m u. body is_raw f m d u) k (skip t)) (λ n. then (gap k n.1) (λ u. then (sequence is_raw f k d u) (λ ns. some (Nodes.more n.0.0 n.0.1 ns.0, ns.1))))))
        go (some r) = end-got r
        go none = child_got (skip t)

  mutual
    unfolding body

    body_got : (f : ℕ) (m : Bool) (d : ℕ) (k : Frame) (ss : List Sym) (t : List ℕ) → (m ≡ true → FineMarker k ss) → Got (NodeP d k ss) (body is_raw f m d t)
    body_got zero m d k ss t h = got-none
    body_got (suc f) m d k ss t h = nest_got f m d k ss t h (λ i e u. sequence_got f i e u)

    sequence_got : (f : ℕ) (k : Frame) (d : ℕ) (t : List ℕ) → Got (NodesP d k) (sequence is_raw f k d t)
    sequence_got zero k d t = got-none
    sequence_got (suc f) k d t = nodes_got f k d (λ ss u. body_got f (free k ss) d k ss u (free_fine k ss)) (λ u. sequence_got f k d u) t

  -- What a text means is well-formed, if the nodes take fewer than 2^32 bytes.
  pub well_read : (t : List ℕ) (ns : Nodes) → meaning is_raw t ≡ some ns → length (encodes ns) < 2 ^ 32 → Fines 64 Top ns
  unfolding meaning
  well_read t ns e l = go (sequence is_raw (suc (2 * length t)) Top 64 t) (sequence_got (suc (2 * length t)) Top 64 t) e
    where
      go : (o : Option (Nodes × List ℕ)) → Got (NodesP 64 Top) o → then o (λ r. some r.0) ≡ some ns → Fines 64 Top ns
      go none g q = absurd (let y : ◌≡◌ {A = ℕ} 0 1 = cc in omega arith)
      go (some v) (got p) q = let z : v.0 ≡ ns = cc in subst (NodesP 64 Top) z p l
