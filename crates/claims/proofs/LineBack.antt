-- In layout 1, Lines, each top-level node is one line: its text has no LF, one LF follows, and the line means that node. Assumes nothing.
use Prim.Native.Nat.{ℕ, zero, suc, ◌*◌, ◌≤◌}
use mathlib.Core.Path.{◌≡◌, refl, sym, ap, ◌∙◌}
use mathlib.Core.List.{List, [], ◌∷◌, ◌++◌, append-nil}
use mathlib.Core.Bool.{Bool, false}
use mathlib.Core.Option.{some}
use native.Mathlib.Omega.{arith}
use lib.ListN.{length, length-append}
use Rattle.text_rules.specs.Text.{Sym}
use Rattle.tape.specs.Tree.{Head, Node, Nodes, scalar, nest, marker, nil, more}
use Rattle.tape.specs.Refusal.{annotated, noted, noteds}
use Rattle.tape.specs.Fine.{Inner, Fine, Fines}
use Rattle.tape.specs.declared.Frame.{Frame}
use Rattle.tape.specs.declared.Frame.TheVariants.{Top, List as ListF, Sexp, Struct}
use Rattle.tokens.specs.Quoted.{raw_rule}
use Rattle.reader.specs.Grammar.{skip, closes, sequence, meaning}
use Rattle.line_reader.specs.Cut.{lfs}
use Rattle.writer.specs.Text.{name_text, separator, broken, deeper, blanks, unbroken, text, texts, stream_text}
use Rattle.writer.proofs.NoLineFeed.{Unbroken, unbroken_nil, unbroken-first, unbroken-both, unbroken-name, unbroken-scalar, unbroken-blanks, unbroken-opening, unbroken-closing, unbroken_marker}
use Rattle.claims.proofs.FirstBytes.{first_long}
use Rattle.claims.proofs.NoteBack.{node-leads}
use Rattle.claims.proofs.StreamBack.{parts_end, no_notes, three-false, child_back, body_back, sequence_end}

-- Under either setting of the writer.
module _ (quoted : Bool) where
  -- the text of a top-level node, without its LF
  unfoldable pub line_body : Head → Node → List ℕ
  line_body h n = name_text quoted h.0 ++ text quoted 1 0 n

  -- with it
  unfoldable pub line : Head → Node → List ℕ
  line h n = line_body h n ++ (10 ∷ [])

  -- the Lines text is one line for each top-level node
  pub lines_more : (h : Head) (n : Node) (ns : Nodes) → stream_text quoted 1 (more h n ns) ≡ line h n ++ stream_text quoted 1 ns
  unfolding stream_text text line line_body separator
  lines_more h n ns = refl

  pub lines_none : stream_text quoted 1 nil ≡ []
  unfolding stream_text text
  lines_none = refl

  pub line_alone : (h : Head) (n : Node) → stream_text quoted 1 (more h n nil) ≡ line h n
  line_alone h n = lines_more h n nil ∙ ap (λ (t : List ℕ). line h n ++ t) lines_none ∙ append-nil (line h n)

-- a well-formed top-level node without annotations, by itself
abbrev pub Alone : Head → Node → Type 0
Alone h n = Fines 64 Top (more h n nil) × (noteds (more h n nil) ≡ false)

-- each node of a tree is one
pub alone_first : (h : Head) (n : Node) (ns : Nodes) → Fines 64 Top (more h n ns) → noteds (more h n ns) ≡ false → Alone h n
unfolding Fine noted
alone_first h n ns f q = let z = three-false (annotated h.1) (noted n) (noteds ns) q in ((f.0, f.1, tt), rw (z.0, z.1))

pub alone_rest : (h : Head) (n : Node) (ns : Nodes) → Fines 64 Top (more h n ns) → noteds (more h n ns) ≡ false → Fines 64 Top ns × (noteds ns ≡ false)
unfolding Fine noted
alone_rest h n ns f q = (f.2, (three-false (annotated h.1) (noted n) (noteds ns) q).2)

-- ---- its only LF is the last byte

unbroken-broken : Unbroken (broken 1)
unfolding broken
unbroken-broken = unbroken_nil

unbroken-separator : (k : Frame) → Inner k → Unbroken (separator 1 k)
unfolding separator unbroken
unbroken-separator Top h = absurd h
unbroken-separator ListF h = record { told = refl }
unbroken-separator Sexp h = record { told = refl }
unbroken-separator Struct h = record { told = refl }

none_counted : (s : List ℕ) → Unbroken s → lfs s ≡ 0
unfolding lfs
none_counted [] u = refl
none_counted (c ∷ s) u = let f = unbroken-first c u in rw f.0 (none_counted s f.1)

module _ (quoted : Bool) where
  mutual
    unfolding text Fine

    unbroken_text : (n : Node) (w d : ℕ) (k : Frame) (ss : List Sym) → Fine d k ss n → Unbroken (text quoted 1 w n)
    unbroken_text (scalar s) w d k ss h = unbroken-scalar quoted s
    unbroken_text (nest i ns) w zero k ss h = absurd h
    unbroken_text (nest i ns) w (suc d) k ss h =
        unbroken-both (unbroken-both (unbroken-both (unbroken-both (unbroken-opening i) unbroken-broken) (unbroken_texts ns (deeper 1 w) d i h.0 h.2)) (unbroken-blanks w)) (unbroken-closing i)
    unbroken_text marker w d k ss h = unbroken_marker

    unbroken_texts : (ns : Nodes) (w d : ℕ) (k : Frame) → Inner k → Fines d k ns → Unbroken (texts quoted 1 k w ns)
    unbroken_texts nil w d k i h = unbroken_nil
    unbroken_texts (more x n ns) w d k i h =
        unbroken-both (unbroken-both (unbroken-both (unbroken-both (unbroken-blanks w) (unbroken-name quoted x.0)) (unbroken_text n w d k x.1 h.1)) (unbroken-separator k i)) (unbroken_texts ns w d k i h.2)

  pub line-body : (h : Head) (n : Node) → Fines 64 Top (more h n nil) → lfs (line_body quoted h n) ≡ 0
  unfolding line_body Fine
  line-body h n f = none_counted _ (unbroken-both (unbroken-name quoted h.0) (unbroken_text n 0 64 Top h.1 f.1))

-- ---- the line without its LF means the node

end_back : (old : Bool) (f l : ℕ) → 1 ≤ f → sequence (raw_rule old) f Top l [] ≡ some (nil, [])
end_back old zero l h = absurd (omega arith)
end_back old (suc f) l h = sequence_end old f l Top [] [] (unfold closes skip in refl)

-- By either raw rule.
module _ (quoted old : Bool) where
  bare_back : (h : Head) (n : Node) → Fines 64 Top (more h n nil) → noteds (more h n nil) ≡ false → sequence (raw_rule old) (suc (2 * length (line_body quoted h n))) Top 64 (line_body quoted h n) ≡ some (more h n nil, [])
  unfolding line_body Fine noted
  bare_back h n g q =
      let z = three-false (annotated h.1) (noted n) (noteds nil) q in
      let f : ℕ = 2 * length (name_text quoted h.0 ++ text quoted 1 0 n) in
      let len = length-append (name_text quoted h.0) (text quoted 1 0 n) in
      let some_byte = first_long (text quoted 1 0 n ++ ([] ++ [])) (node-leads quoted old n 1 0 64 Top h.1 ([] ++ []) g.1 parts_end.delimits).begins in
      let long : 1 ≤ length (text quoted 1 0 n) = omega (arith, length-append (text quoted 1 0 n) []) in
      let e : (blanks 0 ++ name_text quoted h.0 ++ text quoted 1 0 n ++ []) ++ [] ≡ name_text quoted h.0 ++ text quoted 1 0 n = append-nil _ ∙ append-nil _ in
      ap (sequence (raw_rule old) (suc f) Top 64) (sym e)
      ∙ child_back quoted old Top h n nil 1 0 64 f 64 [] [] [] g.0 (no_notes h.1 z.0) g.1 parts_end
      (body_back quoted old n 1 0 f 64 Top h.1 [] g.1 z.1 parts_end.delimits (omega arith))
      (end_back old f 64 (omega arith))

  pub line_body_back : (h : Head) (n : Node) → Fines 64 Top (more h n nil) → noteds (more h n nil) ≡ false → meaning (raw_rule old) (line_body quoted h n) ≡ some (more h n nil)
  unfolding meaning
  line_body_back h n f q = rw (bare_back h n f q)
