-- The round trip of the tree text: the tree text of well-formed nodes means these nodes, annotations included, and a tape that is let
-- through reads back as itself. Assumes nothing.
use Prim.Native.Nat.{ℕ, zero, suc, ◌+◌, ◌*◌, ◌≤◌}
use mathlib.Core.Path.{◌≡◌, refl, sym, ap, subst, ◌∙◌}
use mathlib.Core.List.{List, [], ◌++◌, append_assoc, append-nil}
use mathlib.Core.Bool.{Bool, true, false}
use mathlib.Core.Option.{none, some}
use native.Mathlib.Omega.{arith}
use lib.ListN.{length, take, drop, length-append}
use Rattle.output.specs.Logic.{byte, ascii}
use Rattle.text_rules.specs.Texts.{starts}
use Rattle.text_rules.specs.Digits.{pad, count, digits}
use Rattle.text_rules.specs.Text.{Sym}
use Rattle.numbers.specs.Decimal.{int_text}
use Rattle.tape.specs.Tree.{Head, Node, Nodes, scalar, nest, marker, nil, more, tape}
use Rattle.tape.specs.Tape.{nodes_of}
use Rattle.tape.specs.Verdict.{verdict}
use Rattle.tape.specs.Refusal.{syms_numbered, head_numbered, scalar_numbered, numbered}
use Rattle.tape.specs.Answer.{counted, refused}
use Rattle.tape.specs.Fine.{Bytes, Inner, Fine, Fines}
use Rattle.tape.specs.declared.Frame.{Frame}
use Rattle.tape.specs.declared.Frame.TheVariants.{Top, List as ListF, Sexp, Struct}
use Rattle.tokens.specs.Quoted.{raw_rule}
use Rattle.reader.specs.Grammar.{skip, opener, opens, closes, free, body, sequence, meaning}
use Rattle.reader.specs.Outcome.{answer, leaves}
use Rattle.writer.specs.Text.{scalar_text, name_text, notes_text, opening, closing, separator}
use Rattle.tree.specs.Text.{lead, element, elements, tree_text}
use Rattle.tree.specs.Outcome.{unsuited, refusal, written, written_with}
use Rattle.tree.specs.Outcome as tree
use Rattle.tape.proofs.FineBack.{tape_fine}
use Rattle.tape.proofs.Accepted.{tape_accepted, tape_nodes}
use Rattle.claims.specs.Writing.{WritesText}
use Rattle.claims.specs.Examples.{list, list_tape}
use Rattle.claims.proofs.FirstBytes.{first_long}
use Rattle.claims.proofs.NoteBack.{Delimits, Leads, scalar-leads, marker_leads, opening-leads}
use Rattle.claims.proofs.StreamBack.{Parts, parts, parts_end, parts_closing, closing-ends, name_brace, body_nest, sequence_end, headed_back, free_marker, marker_body, scalar_body, brackets_long}
use Rattle.claims.proofs.TapeBack.{suited, means_tape, writes_whole, writes_cut}
use Rattle.claims.proofs.Marked.{list-tape, list_fine}

-- ---- children and what stands between them

-- what stands before a child is Compact's separator
lead-separator : (k : Frame) → lead true k ≡ separator 0 k
unfolding lead separator
lead-separator Top = refl
lead-separator ListF = refl
lead-separator Sexp = refl
lead-separator Struct = refl

-- behind a child: nothing where it is the last, else what stands before the next
abbrev between : Frame → Nodes → List ℕ
between k nil = []
between k (more h n ns) = lead true k

-- Under either setting of the writer.
module _ (quoted : Bool) where
  elements_true : (k : Frame) (ns : Nodes) → elements quoted true k ns ≡ between k ns ++ elements quoted false k ns
  unfolding element lead
  elements_true k nil = refl
  elements_true k (more h n ns) = simp append_assoc

  elements_more : (k : Frame) (h : Head) (n : Node) (ns : Nodes) (t : List ℕ)
      → elements quoted false k (more h n ns) ++ t ≡ name_text quoted h.0 ++ (notes_text quoted h.1 ++ (element quoted n ++ (between k ns ++ (elements quoted false k ns ++ t))))
  unfolding element lead
  elements_more k h n ns t = rw (elements_true k ns) (simp append_assoc)

  parts_between : (k : Frame) (ns : Nodes) (t : List ℕ) → Parts k [] t → Parts k (between k ns) (elements quoted false k ns ++ t)
  unfolding element
  parts_between k nil t p = p
  parts_between k (more h n ns) t p = rw (lead-separator k) (parts 0 k _)

  -- ---- what an element's text starts with

  -- no `{` stands behind the opening bracket of a struct
  fields_brace : (d : ℕ) (ns : Nodes) (r : List ℕ) → Fines d Struct ns → starts (byte "{") (elements quoted false Struct ns ++ (closing Struct ++ r)) ≡ false
  unfolding element lead Fine name_text closing
  fields_brace d nil r h = unfold starts in refl
  fields_brace d (more (none, ss) n ns) r h = absurd h.0.name
  fields_brace d (more (some s, ss) n ns) r h = simp append_assoc (name_brace quoted s _)

  opening-opens : (k : Frame) (d : ℕ) (ns : Nodes) (r : List ℕ) → Inner k → Fines d k ns → opens (opening k ++ (elements quoted false k ns ++ (closing k ++ r))) ≡ some k
  unfolding opening opens opener
  opening-opens Top d ns r i h = absurd i
  opening-opens ListF d ns r i h = refl
  opening-opens Sexp d ns r i h = refl
  opening-opens Struct d ns r i h = rw (fields_brace d ns r h)

  -- ---- lengths

  -- the brackets take two bytes
  nest_long : (k : Frame) (ns : Nodes) → Inner k → 2 + length (elements quoted false k ns) ≤ length (element quoted (nest k ns))
  unfolding element
  nest_long k ns i = let b = brackets_long k i in simp length-append (omega arith)

  child_long : (k : Frame) (h : Head) (n : Node) (ns : Nodes) → length (element quoted n) + length (elements quoted false k ns) ≤ length (elements quoted false k (more h n ns))
  unfolding element lead
  child_long k h n ns = rw (elements_true k ns) (simp length-append (omega arith))

-- By either raw rule.
module _ (quoted old : Bool) where
  -- ---- trees, for every number of calls that is large enough

  element_leads : (n : Node) (d : ℕ) (k : Frame) (ss : List Sym) (r : List ℕ) → Fine d k ss n → Delimits r → Leads old (element quoted n ++ r)
  unfolding element Fine
  element_leads (scalar s) d k ss r h e = scalar-leads quoted old s r h e
  element_leads (nest i ns) zero k ss r h e = absurd h
  element_leads (nest i ns) (suc d) k ss r h e = simp append_assoc (opening-leads old i _ h.0)
  element_leads marker d k ss r h e = marker_leads old r e

  element_long : (n : Node) (d : ℕ) (k : Frame) (ss : List Sym) → Fine d k ss n → 1 ≤ length (element quoted n)
  element_long n d k ss h = let b = first_long (element quoted n ++ []) (element_leads n d k ss [] h parts_end.delimits).begins in omega (arith, length-append (element quoted n) [])

  -- a container, by what is inside it
  nest_back : (k : Frame) (d f : ℕ) (ss : List Sym) (i : Frame) (ns : Nodes) (r : List ℕ) → Inner i → Fines d i ns
      → sequence (raw_rule old) f i d (elements quoted false i ns ++ (closing i ++ r)) ≡ some (ns, r)
      → body (raw_rule old) (suc f) (free k ss) (suc d) (element quoted (nest i ns) ++ r) ≡ some (nest i ns, r)
  unfolding element
  nest_back k d f ss i ns r j h e = simp append_assoc (body_nest old f (free k ss) d i (elements quoted false i ns ++ (closing i ++ r)) ns r j (opening-opens quoted i d ns r j h) e)

  mutual
    unfolding element Fine

    body_back : (n : Node) (f d : ℕ) (k : Frame) (ss : List Sym) (r : List ℕ) → Fine d k ss n → Delimits r → 2 * length (element quoted n) ≤ f
        → body (raw_rule old) f (free k ss) d (element quoted n ++ r) ≡ some (n, r)
    body_back (scalar s) zero d k ss r h e g = absurd (omega (arith, element_long (scalar s) d k ss h))
    body_back (scalar s) (suc f) d k ss r h e g = scalar_body quoted old f (free k ss) d s r h e
    body_back marker zero d k ss r h e g = absurd (omega arith)
    body_back marker (suc f) d k ss r h e g = marker_body old f (free k ss) d r (free_marker k ss h) e
    body_back (nest i ns) zero zero k ss r h e g = absurd h
    body_back (nest i ns) (suc f) zero k ss r h e g = absurd h
    body_back (nest i ns) zero (suc d) k ss r h e g = absurd (omega (arith, nest_long quoted i ns h.0))
    body_back (nest i ns) (suc f) (suc d) k ss r h e g =
        nest_back k d f ss i ns r h.0 h.2
        (sequence_back ns f d i (closing i ++ r) r h.2 (parts_closing i r h.0) (closing-ends i 0 r h.0) (omega (arith, nest_long quoted i ns h.0)))

    sequence_back : (ns : Nodes) (f d : ℕ) (k : Frame) (t r : List ℕ) → Fines d k ns → Parts k [] t → closes k (skip t) ≡ some r → suc (2 * length (elements quoted false k ns)) ≤ f
        → sequence (raw_rule old) f k d (elements quoted false k ns ++ t) ≡ some (ns, r)
    sequence_back nil zero d k t r h p e g = absurd (omega arith)
    sequence_back nil (suc f) d k t r h p e g = sequence_end old f d k t r e
    sequence_back (more x n ns) zero d k t r h p e g = absurd (omega arith)
    sequence_back (more x n ns) (suc f) d k t r h p e g =
        let l = child_long quoted k x n ns in
        let m = element_long n d k x.1 h.1 in
        let u : List ℕ = elements quoted false k ns ++ t in
        let q : Parts k (between k ns) u = parts_between quoted k ns t p in
        ap (sequence (raw_rule old) (suc f) k d) (elements_more quoted k x n ns t)
        ∙ headed_back quoted old k x n ns 0 f d (element quoted n) (between k ns) u r h.0 (element_leads n d k x.1 (between k ns ++ u) h.1 q.delimits) q
        (body_back n f d k x.1 (between k ns ++ u) h.1 q.delimits (omega arith))
        (sequence_back ns f d k t r h.2 p e (omega arith))

  -- what the tree text means, with all of it read
  read_back : (ns : Nodes) → Fines 64 Top ns → sequence (raw_rule old) (suc (2 * length (tree_text quoted ns))) Top 64 (tree_text quoted ns) ≡ some (ns, [])
  unfolding tree_text
  read_back ns h =
      ap (sequence (raw_rule old) (suc (2 * length (elements quoted false Top ns))) Top 64) (sym (append-nil (elements quoted false Top ns)))
      ∙ sequence_back ns (suc (2 * length (elements quoted false Top ns))) 64 Top [] [] h parts_end (unfold closes skip in refl) (omega arith)

  -- The tree text of well-formed nodes means these nodes, with annotations anywhere. What 5 refuses needs no exception: several top-level
  -- nodes, a marker and any identifier are read back too.
  pub tree_back : (ns : Nodes) → Fines 64 Top ns → meaning (raw_rule old) (tree_text quoted ns) ≡ some ns
  unfolding meaning
  tree_back ns h = rw (read_back ns h)

-- ---- from a tape to its tree text and back

-- a tape that is not refused before measuring is accepted and suits the tree text
pub tree_through : (t : List ℕ) → refusal t ≡ 0 → (verdict t ≡ 0) × (unsuited (nodes_of t) ≡ false)
unfolding refusal
tree_through t e = suited t (unsuited (nodes_of t)) e

-- For every tape that is let through: its tree text means its nodes, under either setting and by either raw rule.
pub tree_means : (quoted old : Bool) (t : List ℕ) → Bytes t → refusal t ≡ 0 → meaning (raw_rule old) (tree_text quoted (nodes_of t)) ≡ some (nodes_of t)
tree_means quoted old t b e = tree_back quoted old (nodes_of t) (tape_fine t b (tree_through t e).0)

-- Reading it back with room gives the tape itself: its length is answered, and it lies at the buffer's start, the rest kept.
pub tree_round_trip : (quoted : Bool) (t b : List ℕ) → Bytes t → refusal t ≡ 0 → length t ≤ length b
    → (answer (tree_text quoted (nodes_of t)) (length b) ≡ counted (length t)) × (leaves (tree_text quoted (nodes_of t)) b ≡ t ++ drop (length t) b)
tree_round_trip quoted t b h e l = means_tape (tree_text quoted (nodes_of t)) t b h (tree_through t e).0 (unfold raw_rule in tree_means quoted false t h e) l

-- ---- which tapes have a tree text

-- The tape of well-formed nodes that 5 does not refuse is written as their tree text: the answer and the whole buffer.
pub element_written : (quoted : Bool) (ns : Nodes) → Fines 64 Top ns → unsuited ns ≡ false → length (tape ns) ≤ 1048576 → WritesText (tree_text quoted ns) (written_with quoted (tape ns)) (tree.leaves_with quoted (tape ns))
unfolding written_with tree.leaves_with refusal
element_written quoted ns f q m =
    let accepted = tape_accepted ns f m in
    let nodes = tape_nodes ns f in
    record { answers = λ n. rw (accepted, nodes, q); lays = λ b. rw (accepted, nodes, q) }

-- 01's list of 1 and 2 is written as `[1, 2]`
pub list_element : WritesText (ascii "[1, 2]") (written list_tape) (tree.leaves list_tape)
unfolding unsuited numbered head_numbered syms_numbered scalar_numbered tree_text element lead notes_text scalar_text name_text opening closing separator int_text digits count pad
list_element = subst (λ (t : List ℕ). WritesText (ascii "[1, 2]") (written t) (tree.leaves t)) list-tape (element_written false list list_fine refl (rw list-tape (omega arith)))

-- so in every buffer of 6 bytes or more, the rest kept, and, cut, in one of 5
pub list_answers : ((b : List ℕ) → 6 ≤ length b → (written list_tape (length b) ≡ counted 6) × (tree.leaves list_tape b ≡ ascii "[1, 2]" ++ drop 6 b))
    × ((b : List ℕ) → length b ≡ 5 → (written list_tape (length b) ≡ refused 6) × (tree.leaves list_tape b ≡ ascii "[1, 2"))
list_answers = (
  λ b h. writes_whole list_element b h,
  λ b e. let w = writes_cut list_element b (omega arith) in (w.0, w.1 ∙ ap (λ (n : ℕ). take n (ascii "[1, 2]")) e),
)
