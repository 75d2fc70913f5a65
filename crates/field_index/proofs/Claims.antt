-- What an index is: sorted, with each field once and no others, and the only such list; and names are equal where comparing finds no difference.
-- That a lookup over it gives the latest field with the name is `lookup_over_index` (LookLaws). Assumes nothing.
use Prim.Native.Nat.{ℕ, zero, suc, ◌+◌, ◌<◌, ◌≤◌}
use mathlib.Core.Path.{◌≡◌, ap}
use mathlib.Core.List.{List, [], ◌++◌}
use mathlib.Core.Bool.{true}
use mathlib.Core.Option.{Option, none, some}
use native.Mathlib.Omega.{arith}
use lib.ListN.{length, get_or}
use Rattle.std.proofs.lemmas.Cmp.{tied_itself}
use Rattle.std.proofs.lemmas.Map.Lookups.{exact_unsigned, exact_bytes}
use Rattle.std.specs.declared.cmp.Ordering.TheVariants.{Equal}
use Rattle.std.specs.Ordering.{is_eq}
use Rattle.output.specs.Logic.{on}
use Rattle.text_rules.specs.Text.{Sym}
use Rattle.tape.specs.Tree.{Nodes, nil, more, encode_head, encode}
use Rattle.field_index.specs.declared.Entry.{Entry}
use Rattle.field_index.specs.Names.{no_entry, compared_names, before}
use Rattle.field_index.specs.Sorted.{Same, Sorted}
use Rattle.field_index.specs.Structs.{struct_at, fields_from}
use Rattle.field_index.specs.Index.{fields_at, index_at}
use Rattle.field_index.specs.Lookup.{is_named}
use Rattle.field_index.proofs.OrderLaws.{names, before_order}
use Rattle.field_index.proofs.SortedLaws.{sorted-sorted, sorted-same, is_sorted}
use Rattle.field_index.proofs.LookLaws.{child_some, equal_of}

-- ---- fields rise with their offsets

from_on : (p : ℕ) (ns : Nodes) (j : ℕ) → j < length (fields_from p ns) → p ≤ (get_or (fields_from p ns) j no_entry).name
unfolding fields_from
from_on p nil j k = absurd (omega arith)
from_on p (more h n ns) zero k = omega arith
from_on p (more h n ns) (suc j) k = let r = from_on (p + length (encode_head h ++ encode n)) ns j (omega arith) in omega arith

rising : (p : ℕ) (ns : Nodes) (i j : ℕ) → i < j → j < length (fields_from p ns) → (get_or (fields_from p ns) i no_entry).name < (get_or (fields_from p ns) j no_entry).name
unfolding fields_from
rising p nil i j h k = absurd (omega arith)
rising p (more g n ns) zero zero h k = absurd (omega arith)
rising p (more g n ns) zero (suc j) h k = let r = from_on (p + length (encode_head g ++ encode n)) ns j (omega arith) in let s = child_some g n in omega arith
rising p (more g n ns) (suc i) zero h k = absurd (omega arith)
rising p (more g n ns) (suc i) (suc j) h k = rising (p + length (encode_head g ++ encode n)) ns i j (omega arith) (omega arith)

-- ---- the index

module _ (t : List ℕ) (at : ℕ) where
  pub index_sorted : Sorted (before t) (index_at t at)
  unfolding index_at
  index_sorted = sorted-sorted (before t) (before_order t) (fields_at t at)

  -- the fields of the struct, each as often as it has them
  pub index_same : Same (index_at t at) (fields_at t at)
  unfolding index_at
  index_same = sorted-same (before t) (fields_at t at)

  pub one_index : (l : List Entry) → Sorted (before t) l → Same l (fields_at t at) → l ≡ index_at t at
  unfolding index_at
  one_index l s e = is_sorted (before t) (before_order t) (fields_at t at) l s e

  -- which is once: they stand at different offsets
  pub fields-apart : (i j : ℕ) → i < j → j < length (fields_at t at) → (get_or (fields_at t at) i no_entry).name < (get_or (fields_at t at) j no_entry).name
  unfolding fields_at
  fields-apart i j h k = go (struct_at t at) k
    where
      go : (o : Option Nodes) → j < length (on o (fields_from (at + 5)) []) → (get_or (on o (fields_from (at + 5)) []) i no_entry).name < (get_or (on o (fields_from (at + 5)) []) j no_entry).name
      go none k = absurd (omega arith)
      go (some ns) k = rising (at + 5) ns i j h k

-- ---- equal names

names_equal : (m n : Sym) → compared_names m n ≡ Equal → m ≡ n
names_equal (Sym.id x) (Sym.id y) e = ap Sym.id (exact_unsigned x y e)
names_equal (Sym.id x) (Sym.text t) e = cc
names_equal (Sym.text s) (Sym.id y) e = cc
names_equal (Sym.text s) (Sym.text t) e = ap Sym.text (exact_bytes s t e)

-- a field has the name exactly where its name is that one: an identifier is never a text
pub named_exactly : (name s : Sym) → (is_named name (some s) ≡ true → s ≡ name) × (s ≡ name → is_named name (some s) ≡ true)
named_exactly name s = ((λ e. names_equal s name (equal_of (compared_names s name) e)), (λ e. rw e (ap is_eq (tied_itself names name))))
