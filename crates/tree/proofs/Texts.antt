-- What the walk writes in its layout 3 is the tree text of one node. Assumes nothing.
use Prim.Native.Nat.{ℕ, zero, suc}
use mathlib.Core.Path.{◌≡◌, refl, ap, ◌∙◌}
use mathlib.Core.List.{List, [], ◌++◌, append_assoc, append-nil}
use mathlib.Core.Bool.{Bool, true, false}
use native.Mathlib.Omega.{arith}
use Rattle.text_rules.specs.Text.{Sym}
use Rattle.tape.specs.Tree.{Node, Nodes, scalar, nest, marker, nil, more, size}
use Rattle.tape.specs.Fine.{Inner, Fine, Fines}
use Rattle.tape.specs.declared.Frame.{Frame}
use Rattle.tape.specs.declared.Frame.TheVariants.{Top, List as ListF, Sexp, Struct}
use Rattle.writer.specs.Text.{name_text, notes_text, opening, closing, separator, broken, deeper}
use Rattle.writer.specs.Steps.{front, ending, is_nil, item, items}
use Rattle.tree.specs.Text.{lead, element, elements, tree_text}

-- in a container the separators are those of the walk's layout 3
separator-lead : (k : Frame) → Inner k → separator 3 k ≡ lead true k
unfolding lead separator
separator-lead Top i = absurd i
separator-lead ListF i = refl
separator-lead Sexp i = refl
separator-lead Struct i = refl

-- the separator before a child is the one behind the child before it
ending-lead : (quoted : Bool) (k : Frame) (ns : Nodes) → Inner k → ending 3 k (is_nil ns) ++ elements quoted false k ns ≡ elements quoted true k ns
unfolding ending elements lead
ending-lead quoted k nil i = refl
ending-lead quoted k (more h n ns) i =
    ap (λ (x : List ℕ). x ++ elements quoted false k (more h n ns)) (separator-lead k i)
    ∙ glue (lead true k) (name_text quoted h.0) (notes_text quoted h.1) (element quoted n) (elements quoted true k ns)
  where
    glue : (s a b c d : List ℕ) → s ++ ((a ++ b ++ c) ++ d) ≡ (s ++ a ++ b ++ c) ++ d
    glue s a b c d = simp append_assoc

glue_child : (a b c e d : List ℕ) → (a ++ b ++ (c ++ e)) ++ d ≡ (a ++ b ++ c) ++ (e ++ d)
glue_child a b c e d = simp append_assoc

mutual
  unfolding item items element elements front broken deeper lead Fine Fines

  item_element : (quoted : Bool) (d : ℕ) (k : Frame) (ss : List Sym) (n : Node) → Fine d k ss n → item quoted 3 0 n ≡ element quoted n
  item_element quoted d k ss (scalar s) f = refl
  item_element quoted zero k ss (nest g ns) f = absurd f
  item_element quoted (suc d) k ss (nest g ns) f =
      ap (λ (x : List ℕ). opening g ++ x ++ items quoted 3 g 0 ns ++ closing g) refl
      ∙ ap (λ (x : List ℕ). x ++ items quoted 3 g 0 ns ++ closing g) (append-nil (opening g))
      ∙ ap (λ (x : List ℕ). opening g ++ x ++ closing g) (items_elements quoted d g ns f.2 f.0)
  item_element quoted d k ss marker f = refl

  items_elements : (quoted : Bool) (d : ℕ) (k : Frame) (ns : Nodes) → Fines d k ns → Inner k → items quoted 3 k 0 ns ≡ elements quoted false k ns
  items_elements quoted d k nil f i = refl
  items_elements quoted d k (more h n ns) f i =
      ap (λ (x : List ℕ). (name_text quoted h.0 ++ notes_text quoted h.1 ++ (item quoted 3 0 n ++ ending 3 k (is_nil ns))) ++ x) (items_elements quoted d k ns f.2 i)
      ∙ ap (λ (x : List ℕ). (name_text quoted h.0 ++ notes_text quoted h.1 ++ (x ++ ending 3 k (is_nil ns))) ++ elements quoted false k ns) (item_element quoted d k h.1 n f.1)
      ∙ glue_child (name_text quoted h.0) (notes_text quoted h.1) (element quoted n) (ending 3 k (is_nil ns)) (elements quoted false k ns)
      ∙ ap (λ (x : List ℕ). (name_text quoted h.0 ++ notes_text quoted h.1 ++ element quoted n) ++ x) (ending-lead quoted k ns i)

-- one node at top level
pub items_tree : (quoted : Bool) (d : ℕ) (ns : Nodes) → Fines d Top ns → size ns ≡ 1 → items quoted 3 Top 0 ns ≡ tree_text quoted ns
unfolding items elements front lead ending tree_text size Fines
items_tree quoted d nil f s = absurd (omega arith)
items_tree quoted d (more h n nil) f s =
    ap (λ (x : List ℕ). (name_text quoted h.0 ++ notes_text quoted h.1 ++ (x ++ [])) ++ []) (item_element quoted d Top h.1 n f.1)
    ∙ ap (λ (x : List ℕ). (name_text quoted h.0 ++ notes_text quoted h.1 ++ x) ++ []) (append-nil (element quoted n))
items_tree quoted d (more h n (more g m ns)) f s = absurd (omega arith)
