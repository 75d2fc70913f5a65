-- The round trip: the streaming text of a well-formed tree without annotations means that tree, in every layout and under either
-- setting of the writer. Assumes nothing.
use Prim.Native.Nat.{ℕ, zero, suc, ◌+◌, ◌*◌, ◌≤◌}
use mathlib.Core.Path.{◌≡◌, refl, sym, ap, ◌∙◌}
use mathlib.Core.List.{List, [], ◌∷◌, ◌++◌, append_assoc, append-nil}
use mathlib.Core.Bool.{Bool, true, false, ◌||◌}
use mathlib.Core.Option.{Option, none, some}
use native.Mathlib.Omega.{arith}
use lib.ListN.{length, length-append}
use lib.Dec.{eqb}
use Rattle.output.specs.Logic.{if, then, byte, ascii}
use Rattle.text_rules.specs.Texts.{starts, strip, ended, delimiter, blank}
use Rattle.text_rules.specs.Words.{is_start}
use Rattle.text_rules.specs.Text.{Sym}
use Rattle.tape.specs.Tree.{Scalar, Head, Node, Nodes, scalar, nest, marker, nil, more}
use Rattle.tape.specs.Refusal.{annotated, noted, noteds}
use Rattle.tape.specs.Fine.{FineScalar, FineHead, FineMarker, Inner, Fine, Fines}
use Rattle.tape.specs.declared.Frame.{Frame}
use Rattle.tape.specs.declared.Frame.TheVariants.{Top, List as ListF, Sexp, Struct}
use Rattle.tokens.specs.Quoted.{raw_rule}
use Rattle.reader.specs.Grammar.{skip, opener, opens, closes, comma, gap, head, free, scalar as scalar_of, body, sequence, meaning}
use Rattle.writer.specs.Text.{sym_text, scalar_text, name_text, notes_text, opening, closing, separator, broken, deeper, blanks, text, texts, stream_text}
use Rattle.text_rules.proofs.DigitLaws.{never}
use Rattle.claims.proofs.FirstBytes.{First, starts_symbol, first_more, other, leads, no_blank, no_end, word-opens}
use Rattle.claims.proofs.ScalarBack.{scalar-told, scalar_long, marker_back, marker_first}
use Rattle.claims.proofs.NoteBack.{Delimits, Leads, node-leads, sym-first, head_back, head_first}

-- ---- blanks

-- spaces are skipped
pub skip-blanks : (w : ℕ) (t : List ℕ) → skip (blanks w ++ t) ≡ skip t
unfolding skip blank
skip-blanks zero t = refl
skip-blanks (suc w) t = skip-blanks w t

skip-broken : (y : ℕ) (t : List ℕ) → skip (broken y ++ t) ≡ skip t
unfolding broken
skip-broken y t = go (eqb y 2)
  where
    go : (b : Bool) → skip (if b (ascii "\n") [] ++ t) ≡ skip t
    go true = unfold skip blank in refl
    go false = refl

-- ---- separators

-- Behind a child stands s, and then t: it ends the child's token, and the sequence goes on at t, with blanks perhaps before it
pub record Parts (k : Frame) (s t : List ℕ) : Type 0 where
  pub delimits : Delimits (s ++ t)
  pub next : List ℕ
  pub gap_is : gap k (s ++ t) ≡ some next
  pub next-is : skip next ≡ skip t

parts_top : (b : Bool) (t : List ℕ) → Parts Top (if b (ascii " ") (ascii "\n")) t
unfolding gap skip blank ended delimiter strip
parts_top true t = record { delimits = record { ends = refl; no_colons = refl }; next = byte " " ∷ t; gap_is = refl; next-is = refl }
parts_top false t = record { delimits = record { ends = refl; no_colons = refl }; next = 10 ∷ t; gap_is = refl; next-is = refl }

parts_list : (b : Bool) (t : List ℕ) → Parts ListF (if b (ascii ",\n") (ascii ", ")) t
unfolding gap comma skip blank ended delimiter strip starts
parts_list true t = record { delimits = record { ends = refl; no_colons = refl }; next = 10 ∷ t; gap_is = refl; next-is = refl }
parts_list false t = record { delimits = record { ends = refl; no_colons = refl }; next = byte " " ∷ t; gap_is = refl; next-is = refl }

parts_sexp : (b : Bool) (t : List ℕ) → Parts Sexp (if b (ascii "\n") (ascii " ")) t
unfolding gap skip blank ended delimiter strip
parts_sexp true t = record { delimits = record { ends = refl; no_colons = refl }; next = 10 ∷ t; gap_is = refl; next-is = refl }
parts_sexp false t = record { delimits = record { ends = refl; no_colons = refl }; next = byte " " ∷ t; gap_is = refl; next-is = refl }

parts_struct : (b : Bool) (t : List ℕ) → Parts Struct (if b (ascii ",\n") (ascii ", ")) t
unfolding gap comma skip blank ended delimiter strip starts
parts_struct true t = record { delimits = record { ends = refl; no_colons = refl }; next = 10 ∷ t; gap_is = refl; next-is = refl }
parts_struct false t = record { delimits = record { ends = refl; no_colons = refl }; next = byte " " ∷ t; gap_is = refl; next-is = refl }

pub parts : (y : ℕ) (k : Frame) (t : List ℕ) → Parts k (separator y k) t
unfolding separator
parts y Top t = parts_top (eqb y 0) t
parts y ListF t = parts_list (eqb y 2) t
parts y Sexp t = parts_sexp (eqb y 2) t
parts y Struct t = parts_struct (eqb y 2) t

-- or nothing, where the sequence ends
pub parts_end : Parts Top [] []
unfolding gap ended strip
parts_end = record { delimits = record { ends = refl; no_colons = refl }; next = []; gap_is = refl; next-is = refl }

pub parts_closing : (k : Frame) (t : List ℕ) → Inner k → Parts k [] (closing k ++ t)
unfolding closing gap comma skip blank ended delimiter strip starts
parts_closing Top t i = absurd i
parts_closing ListF t i = record { delimits = record { ends = refl; no_colons = refl }; next = byte "]" ∷ t; gap_is = refl; next-is = refl }
parts_closing Sexp t i = record { delimits = record { ends = refl; no_colons = refl }; next = byte ")" ∷ t; gap_is = refl; next-is = refl }
parts_closing Struct t i = record { delimits = record { ends = refl; no_colons = refl }; next = byte "}" ∷ t; gap_is = refl; next-is = refl }

if_long : (b : Bool) (s t : List ℕ) → 1 ≤ length s → 1 ≤ length t → 1 ≤ length (if b s t)
if_long true s t h k = h
if_long false s t h k = k

separator_long : (y : ℕ) (k : Frame) → 1 ≤ length (separator y k)
unfolding separator
separator_long y Top = if_long (eqb y 0) (ascii " ") (ascii "\n") (omega arith) (omega arith)
separator_long y ListF = if_long (eqb y 2) (ascii ",\n") (ascii ", ") (omega arith) (omega arith)
separator_long y Sexp = if_long (eqb y 2) (ascii "\n") (ascii " ") (omega arith) (omega arith)
separator_long y Struct = if_long (eqb y 2) (ascii ",\n") (ascii ", ") (omega arith) (omega arith)

-- ---- brackets

pub closing-ends : (k : Frame) (w : ℕ) (r : List ℕ) → Inner k → closes k (skip (blanks w ++ (closing k ++ r))) ≡ some r
unfolding closing closes
closing-ends Top w r h = absurd h
closing-ends ListF w r h = rw (skip-blanks w (byte "]" ∷ r)) (unfold skip blank strip in refl)
closing-ends Sexp w r h = rw (skip-blanks w (byte ")" ∷ r)) (unfold skip blank strip in refl)
closing-ends Struct w r h = rw (skip-blanks w (byte "}" ∷ r)) (unfold skip blank strip in refl)

pub brackets_long : (k : Frame) → Inner k → (length (opening k) ≡ 1) × (length (closing k) ≡ 1)
unfolding opening closing
brackets_long Top h = absurd h
brackets_long ListF h = (refl, refl)
brackets_long Sexp h = (refl, refl)
brackets_long Struct h = (refl, refl)

blanks_brace : (w : ℕ) (t : List ℕ) → starts (byte "{") t ≡ false → starts (byte "{") (blanks w ++ t) ≡ false
unfolding starts
blanks_brace zero t h = h
blanks_brace (suc w) t h = refl

-- What is written, under either setting of the writer.
module _ (quoted : Bool) where
  -- no `{` stands behind the opening bracket of a struct: a name starts with no bracket
  pub name_brace : (s : Sym) (t : List ℕ) → starts (byte "{") (sym_text quoted s ++ t) ≡ false
  name_brace s t = let f = first_more t (sym-first quoted s) in ap (starts (byte "{")) f.is ∙ unfold starts starts_symbol is_start in other starts_symbol f.byte₀ (byte "{") f.tells refl

  fields_brace : (y w d : ℕ) (ns : Nodes) (t : List ℕ) → Fines d Struct ns → starts (byte "{") t ≡ false → starts (byte "{") (texts quoted y Struct w ns ++ t) ≡ false
  unfolding text Fine name_text
  fields_brace y w d nil t h e = e
  fields_brace y w d (more (none, ss) n ns) t h e = absurd h.0.name
  fields_brace y w d (more (some s, ss) n ns) t h e = simp append_assoc (blanks_brace w _ (name_brace s _))

  struct_brace : (y w v d : ℕ) (ns : Nodes) (r : List ℕ) → Fines d Struct ns → starts (byte "{") (broken y ++ (texts quoted y Struct v ns ++ (blanks w ++ (closing Struct ++ r)))) ≡ false
  unfolding broken closing
  struct_brace y w v d ns r h = go (eqb y 2)
    where
      inside : starts (byte "{") (texts quoted y Struct v ns ++ (blanks w ++ (byte "}" ∷ r))) ≡ false
      inside = fields_brace y v d ns (blanks w ++ (byte "}" ∷ r)) h (blanks_brace w (byte "}" ∷ r) (unfold starts in refl))

      go : (b : Bool) → starts (byte "{") (if b (ascii "\n") [] ++ (texts quoted y Struct v ns ++ (blanks w ++ (byte "}" ∷ r)))) ≡ false
      go true = unfold starts in refl
      go false = inside

  opening-opens : (k : Frame) (y w v d : ℕ) (ns : Nodes) (r : List ℕ) → Inner k → Fines d k ns → opens (opening k ++ (broken y ++ (texts quoted y k v ns ++ (blanks w ++ (closing k ++ r))))) ≡ some k
  unfolding opening opens opener
  opening-opens Top y w v d ns r i h = absurd i
  opening-opens ListF y w v d ns r i h = refl
  opening-opens Sexp y w v d ns r i h = refl
  opening-opens Struct y w v d ns r i h = rw (struct_brace y w v d ns r h)

  -- the brackets take two bytes
  nest_long : (k : Frame) (y w : ℕ) (ns : Nodes) → Inner k → 2 + length (texts quoted y k (deeper y w) ns) ≤ length (text quoted y w (nest k ns))
  unfolding text
  nest_long k y w ns i = let b = brackets_long k i in simp length-append (omega arith)

  -- the separator takes one
  child_long : (k : Frame) (h : Head) (n : Node) (ns : Nodes) (y w : ℕ) → 1 + length (text quoted y w n) + length (texts quoted y k w ns) ≤ length (texts quoted y k w (more h n ns))
  unfolding text
  child_long k h n ns y w = let b = separator_long y k in simp length-append (omega arith)

-- ---- what is free of annotations

pub no_notes : (ss : List Sym) → annotated ss ≡ false → ss ≡ []
no_notes [] h = refl
no_notes (s ∷ ss) h = never h

pub three-false : (a b c : Bool) → a || b || c ≡ false → (a ≡ false) × (b ≡ false) × (c ≡ false)
three-false false false false h = (refl, refl, refl)
three-false false false true h = never h
three-false false true c h = never h
three-false true b c h = never h

pub free_marker : (k : Frame) (ss : List Sym) → FineMarker k ss → free k ss ≡ true
unfolding free
free_marker Top [] h = refl
free_marker Top (s ∷ ss) h = absurd h
free_marker ListF ss h = absurd h
free_marker Sexp ss h = absurd h
free_marker Struct ss h = absurd h

-- By either raw rule.
module _ (old : Bool) where
  -- ---- values

  -- blanks before a sequence change nothing
  pub blanks-before : (f l : ℕ) (k : Frame) (t u : List ℕ) → skip t ≡ skip u → sequence (raw_rule old) f k l t ≡ sequence (raw_rule old) f k l u
  unfolding body
  blanks-before zero l k t u e = refl
  blanks-before (suc f) l k t u e = rw e

  body_scalar : (f : ℕ) (m : Bool) (l : ℕ) (t : List ℕ) (o : Option (Node × List ℕ)) → opens t ≡ none → scalar_of (raw_rule old) m t ≡ o → body (raw_rule old) (suc f) m l t ≡ o
  unfolding body
  body_scalar f m l t o h e = rw (h, e)

  pub body_nest : (f : ℕ) (m : Bool) (l : ℕ) (k : Frame) (t : List ℕ) (ns : Nodes) (r : List ℕ) → Inner k → opens (opening k ++ t) ≡ some k → sequence (raw_rule old) f k l t ≡ some (ns, r) → body (raw_rule old) (suc f) m (suc l) (opening k ++ t) ≡ some (nest k ns, r)
  unfolding body opening
  body_nest f m l Top t ns r i h e = absurd i
  body_nest f m l ListF t ns r i h e = rw (h, e)
  body_nest f m l Sexp t ns r i h e = rw (h, e)
  body_nest f m l Struct t ns r i h e = rw (h, e)

  -- ---- sequences

  pub sequence_end : (f l : ℕ) (k : Frame) (t r : List ℕ) → closes k (skip t) ≡ some r → sequence (raw_rule old) (suc f) k l t ≡ some (nil, r)
  unfolding body
  sequence_end f l k t r h = rw h

  sequence_child : (f l : ℕ) (k : Frame) (t u v x : List ℕ) (h : Head) (n : Node) (o : Option (Nodes × List ℕ))
      → closes k (skip t) ≡ none → head (raw_rule old) k (skip t) ≡ some (h, u) → body (raw_rule old) f (free k h.1) l u ≡ some (n, v) → gap k v ≡ some x → sequence (raw_rule old) f k l x ≡ o
      → sequence (raw_rule old) (suc f) k l t ≡ then o (λ ns. some (more h n ns.0, ns.1))
  unfolding body
  sequence_child f l k t u v x h n o a b c d e = rw (a, b, c, d, e)

  pub marker_body : (f : ℕ) (m : Bool) (l : ℕ) (r : List ℕ) → m ≡ true → Delimits r → body (raw_rule old) (suc f) m l (ascii "$ion_1_0" ++ r) ≡ some (marker, r)
  marker_body f m l r h d =
      body_scalar f m l (ascii "$ion_1_0" ++ r) (some (marker, r)) (word-opens _ (first_more r marker_first)) (ap (λ (b : Bool). scalar_of (raw_rule old) b (ascii "$ion_1_0" ++ r)) h ∙ marker_back old r d.ends)

-- What is written, under either setting of the writer and by either raw rule.
module _ (quoted old : Bool) where
  -- ---- containers

  -- a container, by what is inside it
  nest_back : (k : Frame) (y w d f : ℕ) (m : Bool) (ns : Nodes) (r : List ℕ) → Inner k → Fines d k ns
      → sequence (raw_rule old) f k d (texts quoted y k (deeper y w) ns ++ (blanks w ++ (closing k ++ r))) ≡ some (ns, r)
      → body (raw_rule old) (suc f) m (suc d) (text quoted y w (nest k ns) ++ r) ≡ some (nest k ns, r)
  unfolding text
  nest_back k y w d f m ns r i h e =
      let u : List ℕ = texts quoted y k (deeper y w) ns ++ (blanks w ++ (closing k ++ r)) in
      simp append_assoc (body_nest old f m d k (broken y ++ u) ns r i (opening-opens quoted k y w (deeper y w) d ns r i h) (blanks-before old f d k (broken y ++ u) u (skip-broken y u) ∙ e))

  -- ---- sequences

  -- a child whose value has the text v, with s behind it, and the rest t of the sequence
  pub headed_back : (k : Frame) (h : Head) (n : Node) (ns : Nodes) (w f l : ℕ) (v s t r : List ℕ) → FineHead k h → Leads old (v ++ (s ++ t)) → Parts k s t
      → body (raw_rule old) f (free k h.1) l (v ++ (s ++ t)) ≡ some (n, s ++ t)
      → sequence (raw_rule old) f k l t ≡ some (ns, r)
      → sequence (raw_rule old) (suc f) k l (blanks w ++ (name_text quoted h.0 ++ (notes_text quoted h.1 ++ (v ++ (s ++ t))))) ≡ some (more h n ns, r)
  headed_back k h n ns w f l v s t r a i p b e =
      let z : List ℕ = v ++ (s ++ t) in
      let x : List ℕ = name_text quoted h.0 ++ (notes_text quoted h.1 ++ z) in
      let j : First leads x = head_first quoted k h z a i.begins in
      let q : skip (blanks w ++ x) ≡ x = skip-blanks w x ∙ no_blank x j in
      let e' : sequence (raw_rule old) f k l p.next ≡ some (ns, r) = blanks-before old f l k p.next t p.next-is ∙ e in
      sequence_child old f l k (blanks w ++ x) z (s ++ t) p.next h n (some (ns, r)) (ap (closes k) q ∙ no_end k x j) (ap (head (raw_rule old) k) q ∙ head_back quoted old k h z a i) b p.gap_is e'

  -- the same without annotations
  pub child_back : (k : Frame) (h : Head) (n : Node) (ns : Nodes) (y w d f l : ℕ) (s t r : List ℕ) → FineHead k h → h.1 ≡ [] → Fine d k h.1 n → Parts k s t
      → body (raw_rule old) f (free k h.1) l (text quoted y w n ++ (s ++ t)) ≡ some (n, s ++ t)
      → sequence (raw_rule old) f k l t ≡ some (ns, r)
      → sequence (raw_rule old) (suc f) k l ((blanks w ++ name_text quoted h.0 ++ text quoted y w n ++ s) ++ t) ≡ some (more h n ns, r)
  unfolding notes_text
  child_back k h n ns y w d f l s t r a b c p v e =
      let z : List ℕ = text quoted y w n ++ (s ++ t) in
      let all : (blanks w ++ name_text quoted h.0 ++ text quoted y w n ++ s) ++ t ≡ blanks w ++ (name_text quoted h.0 ++ z) = simp append_assoc in
      ap (sequence (raw_rule old) (suc f) k l) (all ∙ ap (λ (ss : List Sym). blanks w ++ (name_text quoted h.0 ++ (notes_text quoted ss ++ z))) (sym b))
      ∙ headed_back k h n ns w f l (text quoted y w n) s t r a (node-leads quoted old n y w d k h.1 (s ++ t) c p.delimits) p v e

  pub scalar_body : (f : ℕ) (m : Bool) (l : ℕ) (s : Scalar) (r : List ℕ) → FineScalar s → Delimits r → body (raw_rule old) (suc f) m l (scalar_text quoted s ++ r) ≡ some (scalar s, r)
  scalar_body f m l s r h d = let t = scalar-told quoted old m s r h d.ends in body_scalar old f m l (scalar_text quoted s ++ r) (some (scalar s, r)) t.no_bracket t.reads

  -- ---- trees, for every number of calls that is large enough

  mutual
    unfolding text Fine noted

    pub body_back : (n : Node) (y w f d : ℕ) (k : Frame) (ss : List Sym) (r : List ℕ) → Fine d k ss n → noted n ≡ false → Delimits r → 2 * length (text quoted y w n) ≤ f
        → body (raw_rule old) f (free k ss) d (text quoted y w n ++ r) ≡ some (n, r)
    body_back (scalar s) y w zero d k ss r h q e g = absurd (omega (arith, scalar_long quoted s h))
    body_back (scalar s) y w (suc f) d k ss r h q e g = scalar_body f (free k ss) d s r h e
    body_back marker y w zero d k ss r h q e g = absurd (omega arith)
    body_back marker y w (suc f) d k ss r h q e g = marker_body old f (free k ss) d r (free_marker k ss h) e
    body_back (nest i ns) y w zero zero k ss r h q e g = absurd h
    body_back (nest i ns) y w (suc f) zero k ss r h q e g = absurd h
    body_back (nest i ns) y w zero (suc d) k ss r h q e g = absurd (omega (arith, nest_long quoted i y w ns h.0))
    body_back (nest i ns) y w (suc f) (suc d) k ss r h q e g =
        nest_back i y w d f (free k ss) ns r h.0 h.2
        (sequence_back ns y (deeper y w) f d i (blanks w ++ (closing i ++ r)) r h.2 q (closing-ends i w r h.0) (omega (arith, nest_long quoted i y w ns h.0)))

    pub sequence_back : (ns : Nodes) (y w f d : ℕ) (k : Frame) (t r : List ℕ) → Fines d k ns → noteds ns ≡ false → closes k (skip t) ≡ some r → suc (2 * length (texts quoted y k w ns)) ≤ f
        → sequence (raw_rule old) f k d (texts quoted y k w ns ++ t) ≡ some (ns, r)
    sequence_back nil y w zero d k t r h q e g = absurd (omega arith)
    sequence_back nil y w (suc f) d k t r h q e g = sequence_end old f d k t r e
    sequence_back (more x n ns) y w zero d k t r h q e g = absurd (omega arith)
    sequence_back (more x n ns) y w (suc f) d k t r h q e g =
        let z = three-false (annotated x.1) (noted n) (noteds ns) q in
        let l = child_long quoted k x n ns y w in
        let u : List ℕ = texts quoted y k w ns ++ t in
        let p : Parts k (separator y k) u = parts y k u in
        ap (sequence (raw_rule old) (suc f) k d) (append_assoc (blanks w ++ name_text quoted x.0 ++ text quoted y w n ++ separator y k) (texts quoted y k w ns) t)
        ∙ child_back k x n ns y w d f d (separator y k) u r h.0 (no_notes x.1 z.0) h.1 p
        (body_back n y w f d k x.1 (separator y k ++ u) h.1 z.1 p.delimits (omega arith))
        (sequence_back ns y w f d k t r h.2 z.2 e (omega arith))

  -- what the text of a tree's nodes means, at top level and with all of it read
  pub read_back : (ns : Nodes) (y : ℕ) → Fines 64 Top ns → noteds ns ≡ false → sequence (raw_rule old) (suc (2 * length (stream_text quoted y ns))) Top 64 (stream_text quoted y ns) ≡ some (ns, [])
  unfolding stream_text
  read_back ns y h q =
      ap (sequence (raw_rule old) (suc (2 * length (texts quoted y Top 0 ns))) Top 64) (sym (append-nil (texts quoted y Top 0 ns)))
      ∙ sequence_back ns y 0 (suc (2 * length (texts quoted y Top 0 ns))) 64 Top [] [] h q (unfold closes skip in refl) (omega arith)

  -- The streaming text of a well-formed tree without annotations means that tree, for every layout number.
  pub stream_back : (y : ℕ) (ns : Nodes) → Fines 64 Top ns → noteds ns ≡ false → meaning (raw_rule old) (stream_text quoted y ns) ≡ some ns
  unfolding meaning
  stream_back y ns h q = rw (read_back ns y h q)
