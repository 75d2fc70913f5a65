-- The sums together are the lengths of the texts. Assumes nothing.
use Prim.Native.Nat.{ℕ, ◌+◌, ◌≤◌}
use mathlib.Core.Path.{◌≡◌, refl, ap, ◌∙◌}
use mathlib.Core.List.{List, [], ◌∷◌, ◌++◌}
use mathlib.Core.Bool.{Bool, true, false, ◌||◌}
use native.Mathlib.Omega.{arith}
use lib.Dec.{eqb}
use lib.ListN.{length, length-append, length-replicate}
use borrow.Author.Tests.{eqb-true}
use Rattle.output.specs.Logic.{if, byte, ascii}
use Rattle.text_rules.specs.Text.{Sym}
use Rattle.text_rules.proofs.DigitLaws.{never}
use Rattle.tape.specs.Tree.{Head, Node, Nodes, scalar, nest, marker, nil, more}
use Rattle.tape.specs.Refusal.{annotated, noted, noteds}
use Rattle.tape.specs.declared.Frame.{Frame}
use Rattle.tape.specs.declared.Frame.TheVariants.{Top, List as ListF, Sexp, Struct}
use Rattle.writer.specs.Text.{name_text, notes_text, opening, closing, separator, broken, deeper, blanks, text, texts, stream_text}
use Rattle.writer.specs.Steps.{is_nil, front, ending, item, items}
use Rattle.measure.specs.Sums.{front_length, contents_of, contents, separator_length, separators_of, separators, lasts_of, lasts, indents_of, indents}

-- ---- the parts of a text

-- separators are as long in one layout as in another
separator_long : (y : ℕ) (k : Frame) → length (separator y k) ≡ separator_length k
unfolding separator
separator_long y Top = go (eqb y 0)
  where
    go : (b : Bool) → length (if b (ascii " ") (ascii "\n")) ≡ 1
    go true = refl
    go false = refl
separator_long y ListF = go (eqb y 2)
  where
    go : (b : Bool) → length (if b (ascii ",\n") (ascii ", ")) ≡ 2
    go true = refl
    go false = refl
separator_long y Sexp = go (eqb y 2)
  where
    go : (b : Bool) → length (if b (ascii "\n") (ascii " ")) ≡ 1
    go true = refl
    go false = refl
separator_long y Struct = go (eqb y 2)
  where
    go : (b : Bool) → length (if b (ascii ",\n") (ascii ", ")) ≡ 2
    go true = refl
    go false = refl

-- three and five texts, one behind the other
pub length-3 : (a b c : List ℕ) → length (a ++ b ++ c) ≡ length a + length b + length c
length-3 a b c = let p = length-append a b in let q = length-append (a ++ b) c in omega arith

length-5 : (a b c d e : List ℕ) → length (a ++ b ++ c ++ d ++ e) ≡ length a + length b + length c + length d + length e
length-5 a b c d e =
    let p = length-3 a b c in
    let q = length-append (a ++ b ++ c) d in
    let r = length-append (a ++ b ++ c ++ d) e in
    omega arith

-- nothing is annotated
or_none : (a b c : Bool) → a || b || c ≡ false → (a ≡ false) × (b ≡ false) × (c ≡ false)
or_none false false false e = (refl, refl, refl)
or_none false false true e = never e
or_none false true c e = never e
or_none true b c e = never e

module _ (quoted : Bool) where
  notes-none : (ss : List Sym) → annotated ss ≡ false → length (notes_text quoted ss) ≡ 0
  unfolding notes_text
  notes-none [] e = refl
  notes-none (s ∷ ss) e = never e

  -- a child with w blanks before it, and the children behind it
  child_long : (y w : ℕ) (k : Frame) (h : Head) (n : Node) (u : List ℕ) → annotated h.1 ≡ false
      → length ((blanks w ++ name_text quoted h.0 ++ text quoted y w n ++ separator y k) ++ u) ≡ w + front_length quoted h + length (text quoted y w n) + separator_length k + length u
  child_long y w k h n u e =
      let a = length-append (blanks w ++ name_text quoted h.0 ++ text quoted y w n ++ separator y k) u in
      let b = length-append (blanks w ++ name_text quoted h.0 ++ text quoted y w n) (separator y k) in
      let c = length-3 (blanks w) (name_text quoted h.0) (text quoted y w n) in
      let d = length-replicate w (byte " ") in
      let s = separator_long y k in
      let z = notes-none h.1 e in
      omega arith

  -- ---- Compact and Lines: contents and separators

  module _ (y : ℕ) (q : eqb y 2 ≡ false) where
    broken-none : broken y ≡ []
    unfolding broken
    broken-none = rw q

    deeper-none : (w : ℕ) → deeper y w ≡ 0
    unfolding deeper
    deeper-none w = rw q

    mutual
      unfolding text texts contents_of contents separators_of separators noted noteds

      text_plain : (n : Node) → noted n ≡ false → length (text quoted y 0 n) ≡ contents_of quoted n + separators_of n
      text_plain (scalar s) e = omega arith
      text_plain (nest k ns) e =
          let a = length-5 (opening k) (broken y) (texts quoted y k (deeper y 0) ns) [] (closing k) in
          let b = ap (λ (l : List ℕ). length l) broken-none in
          let c = ap (λ (w : ℕ). length (texts quoted y k w ns)) (deeper-none 0) in
          let d = texts_plain k ns e in
          omega arith
      text_plain marker e = omega arith

      texts_plain : (k : Frame) (ns : Nodes) → noteds ns ≡ false → length (texts quoted y k 0 ns) ≡ contents quoted ns + separators k ns
      texts_plain k nil e = omega arith
      texts_plain k (more h n ns) e =
          let z = or_none (annotated h.1) (noted n) (noteds ns) e in
          let a = child_long y 0 k h n (texts quoted y k 0 ns) z.0 in
          let b = text_plain n z.1 in
          let c = texts_plain k ns z.2 in
          omega arith

  -- ---- Pretty: the indentation too

  mutual
    unfolding text texts contents_of contents separators_of separators indents_of indents noted noteds

    text_pretty : (w : ℕ) (n : Node) → noted n ≡ false → length (text quoted 2 w n) ≡ contents_of quoted n + separators_of n + indents_of w n
    text_pretty w (scalar s) e = omega arith
    text_pretty w (nest k ns) e =
        let a = length-5 (opening k) (broken 2) (texts quoted 2 k (deeper 2 w) ns) (blanks w) (closing k) in
        let b = length-replicate w (byte " ") in
        let c = texts_pretty k (deeper 2 w) ns e in
        omega arith
    text_pretty w marker e = omega arith

    texts_pretty : (k : Frame) (w : ℕ) (ns : Nodes) → noteds ns ≡ false → length (texts quoted 2 k w ns) ≡ contents quoted ns + separators k ns + indents w ns
    texts_pretty k w nil e = omega arith
    texts_pretty k w (more h n ns) e =
        let z = or_none (annotated h.1) (noted n) (noteds ns) e in
        let a = child_long 2 w k h n (texts quoted 2 k w ns) z.0 in
        let b = text_pretty w n z.1 in
        let c = texts_pretty k w ns z.2 in
        omega arith

  -- the streaming text
  pub stream_sums : (y : ℕ) (ns : Nodes) → noteds ns ≡ false → length (stream_text quoted y ns) ≡ contents quoted ns + separators Top ns + if (eqb y 2) (indents 0 ns) 0
  unfolding stream_text
  stream_sums y ns e = go (eqb y 2) refl
    where
      go : (b : Bool) → eqb y 2 ≡ b → length (texts quoted y Top 0 ns) ≡ contents quoted ns + separators Top ns + if b (indents 0 ns) 0
      go true q = ap (λ (y : ℕ). length (texts quoted y Top 0 ns)) (eqb-true _ _ q) ∙ texts_pretty Top 0 ns e
      go false q = let p = texts_plain y q Top ns e in omega arith

  -- ---- the tree text, which is the walk's layout 3: no separator behind the last child

  ending_long : (k : Frame) (last : Bool) → length (ending 3 k last) + if last (separator_length k) 0 ≡ separator_length k
  unfolding ending
  ending_long k true = omega arith
  ending_long k false = let s = separator_long 3 k in omega arith

  mutual
    unfolding item items front contents_of contents separators_of separators lasts_of lasts broken deeper

    item_long : (n : Node) → length (item quoted 3 0 n) + lasts_of n ≡ contents_of quoted n + separators_of n
    item_long (scalar s) = omega arith
    item_long (nest k ns) =
        let a = length-3 (opening k ++ []) (items quoted 3 k 0 ns) (closing k) in
        let b = length-append (opening k) [] in
        let c = items_long k ns in
        omega arith
    item_long marker = omega arith

    items_long : (k : Frame) (ns : Nodes) → length (items quoted 3 k 0 ns) + lasts k ns ≡ contents quoted ns + separators k ns
    items_long k nil = omega arith
    items_long k (more h n ns) =
        let a = length-append (front quoted 3 0 h ++ (item quoted 3 0 n ++ ending 3 k (is_nil ns))) (items quoted 3 k 0 ns) in
        let b = length-append (front quoted 3 0 h) (item quoted 3 0 n ++ ending 3 k (is_nil ns)) in
        let c = length-append (item quoted 3 0 n) (ending 3 k (is_nil ns)) in
        let d = length-append (name_text quoted h.0) (notes_text quoted h.1) in
        let p = ending_long k (is_nil ns) in
        let q = item_long n in
        let r = items_long k ns in
        omega arith

  pub tree_sums : (ns : Nodes) → length (items quoted 3 Top 0 ns) + lasts Top ns ≡ contents quoted ns + separators Top ns
  tree_sums ns = items_long Top ns

-- ---- the last separators are some of them

last_most : (b : Bool) (g : ℕ) → if b g 0 ≤ g
last_most true g = omega arith
last_most false g = omega arith

mutual
  unfolding lasts_of lasts separators_of separators

  node-lasts : (n : Node) → lasts_of n ≤ separators_of n
  node-lasts (scalar s) = omega arith
  node-lasts (nest k ns) = lasts_most k ns
  node-lasts marker = omega arith

  pub lasts_most : (k : Frame) (ns : Nodes) → lasts k ns ≤ separators k ns
  lasts_most k nil = omega arith
  lasts_most k (more h n ns) =
      let a = last_most (is_nil ns) (separator_length k) in
      let b = node-lasts n in
      let c = lasts_most k ns in
      omega arith
