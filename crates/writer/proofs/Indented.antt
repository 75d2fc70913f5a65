-- In Pretty the children's text at a width is their text at width 2 with the further blanks before each of its lines, those of nested brackets
-- included. Assumes nothing.
use Prim.Native.Nat.{ℕ, zero, suc, ◌+◌, ◌-◌, ◌≤◌}
use mathlib.Core.Path.{◌≡◌, refl, sym, ap, ◌∙◌}
use mathlib.Core.List.{List, [], ◌∷◌, ◌++◌, append_assoc, append-nil}
use mathlib.Core.Bool.{Bool, true, false}
use native.Mathlib.Omega.{arith}
use lib.ListN.{replicate-append-replicate}
use Rattle.output.specs.Logic.{byte, ascii}
use Rattle.output.specs.Wrote.{Wrote}
use Rattle.tape.specs.Tree.{Node, Nodes, scalar, nest, marker, nil, more}
use Rattle.tape.specs.declared.Frame.{Frame}
use Rattle.tape.specs.declared.Frame.TheVariants.{Top, List as ListF, Sexp, Struct}
use Rattle.writer.specs.Text.{scalar_text, name_text, opening, closing, separator, broken, deeper, blanks, indented_from, indented, text, texts}
use Rattle.writer.specs.Steps.{items}
use Rattle.writer.proofs.Items.{items_texts}
use Rattle.writer.proofs.NoLineFeed.{Unbroken, unbroken-first, unbroken-name, unbroken-scalar, unbroken-blanks, unbroken-opening, unbroken-closing, unbroken_marker}

module _ (n : ℕ) where
  -- s with n further blanks before its lines is s', whatever follows it. from: a line starts with s; to: one starts behind it
  record Moved (from to : Bool) (s s' : List ℕ) : Type 0 where
    pub moves : (t : List ℕ) → indented_from from n (s ++ t) ≡ s' ++ indented_from to n t

  moved_then : {a b c : Bool} {s s' t t' : List ℕ} → Moved a b s s' → Moved b c t t' → Moved a c (s ++ t) (s' ++ t')
  moved_then {a} {b} {c} {s} {s'} {t} {t'} p q = record {
    moves = λ u.
        ap (indented_from a n) (append_assoc s t u) ∙ p.moves (t ++ u) ∙ ap (λ (x : List ℕ). s' ++ x) (q.moves u) ∙ sym (append_assoc s' t' (indented_from c n u));
  }

  -- inside a line
  moved_inside : (s : List ℕ) → Unbroken s → Moved false false s s
  unfolding indented_from
  moved_inside [] h = record { moves = λ t. refl }
  moved_inside (c ∷ s) h =
      let f = unbroken-first c h in
      record { moves = λ t. rw f.0 (ap (λ (x : List ℕ). c ∷ x) ((moved_inside s f.1).moves t)) }

  moved_break : Moved false true (ascii "\n") (ascii "\n")
  unfolding indented_from
  moved_break = record { moves = λ t. refl }

  -- a line that starts with blanks starts with n more
  moved_blanks : (w v : ℕ) → 1 ≤ w → v ≡ n + w → Moved true false (blanks w) (blanks v)
  unfolding indented_from
  moved_blanks zero v h e = absurd (omega arith)
  moved_blanks (suc w) v h e = record {
    moves = λ t.
        ap (λ (x : List ℕ). blanks n ++ (byte " " ∷ x)) ((moved_inside (blanks w) (unbroken-blanks w)).moves t)
        ∙ sym (append_assoc (blanks n) (blanks (suc w)) (indented_from false n t))
        ∙ ap (λ (x : List ℕ). x ++ indented_from false n t) (replicate-append-replicate n (suc w) (byte " ") ∙ ap blanks (sym e));
  }

  moved_separator : (k : Frame) → Moved false true (separator 2 k) (separator 2 k)
  unfolding separator indented_from
  moved_separator Top = record { moves = λ t. refl }
  moved_separator ListF = record { moves = λ t. refl }
  moved_separator Sexp = record { moves = λ t. refl }
  moved_separator Struct = record { moves = λ t. refl }

  mutual
    unfolding text texts broken deeper

    moved_text : (quoted : Bool) (m : Node) (w v : ℕ) → 1 ≤ w → v ≡ n + w → Moved false false (text quoted 2 w m) (text quoted 2 v m)
    moved_text quoted (scalar s) w v h e = moved_inside (scalar_text quoted s) (unbroken-scalar quoted s)
    moved_text quoted (nest k ns) w v h e =
        moved_then
        (moved_then
        (moved_then (moved_then (moved_inside (opening k) (unbroken-opening k)) moved_break) (moved_texts quoted ns k (w + 2) (v + 2) (omega arith) (omega arith)))
        (moved_blanks w v h e))
        (moved_inside (closing k) (unbroken-closing k))
    moved_text quoted marker w v h e = moved_inside (ascii "$ion_1_0") unbroken_marker

    moved_texts : (quoted : Bool) (ns : Nodes) (k : Frame) (w v : ℕ) → 1 ≤ w → v ≡ n + w → Moved true true (texts quoted 2 k w ns) (texts quoted 2 k v ns)
    moved_texts quoted nil k w v h e = record { moves = λ t. refl }
    moved_texts quoted (more x m ns) k w v h e =
        moved_then
        (moved_then
        (moved_then (moved_then (moved_blanks w v h e) (moved_inside (name_text quoted x.0) (unbroken-name quoted x.0))) (moved_text quoted m w v h e))
        (moved_separator k))
        (moved_texts quoted ns k w v h e)

-- in every frame, the top level's included
pub indented_texts : (quoted : Bool) (w : ℕ) (k : Frame) (ns : Nodes) → 2 ≤ w → texts quoted 2 k w ns ≡ indented (w - 2) (texts quoted 2 k 2 ns)
unfolding indented indented_from
indented_texts quoted w k ns h =
    sym (append-nil (texts quoted 2 k w ns))
    ∙ sym ((moved_texts (w - 2) quoted ns k 2 w (omega arith) (omega arith)).moves [])
    ∙ ap (indented_from true (w - 2)) (append-nil (texts quoted 2 k 2 ns))

-- and so is what the walk writes
pub wrote_moved : {b b' : List ℕ} {p r : ℕ} (quoted : Bool) (y w : ℕ) (k : Frame) (ns : Nodes) → Wrote b b' p r (items quoted y k w ns) → y ≡ 2 → 2 ≤ w → Wrote b b' p r (indented (w - 2) (texts quoted 2 k 2 ns))
wrote_moved quoted y w k ns h e m = rw (ap (λ (x : ℕ). items quoted x k w ns) e ∙ items_texts quoted 2 refl k w ns ∙ indented_texts quoted w k ns m) at h
