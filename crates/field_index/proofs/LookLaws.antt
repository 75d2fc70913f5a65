-- A lookup over an index gives the latest field with the name, and none exactly if no field has it. Assumes nothing.
use Prim.Native.Nat.{ℕ, zero, suc, ◌+◌, ◌<◌, ◌≤◌}
use mathlib.Core.Path.{◌≡◌, refl, sym, ap, subst, ◌∙◌}
use mathlib.Core.List.{List, [], ◌∷◌, ◌++◌}
use mathlib.Core.Bool.{Bool, true, false}
use mathlib.Core.Option as maybe
use native.Mathlib.Omega.{arith}
use lib.ListN.{length, get_or, take, drop, length-append, get_or-append}
use lib.Seq.{take_at}
use Rattle.std.specs.Prelude.{Option, None, Some, Result, Ok, Err}
use Rattle.std.specs.Cmp.{nat_cmp_is}
use Rattle.std.specs.declared.cmp.Ordering.{Ordering}
use Rattle.std.specs.declared.cmp.Ordering.TheVariants.{Less, Equal, Greater}
use Rattle.std.specs.Result.{result_unwrap_or}
use Rattle.std.specs.Ordering.{is_lt, is_eq, nat_cmp, ordering_then, ordering_reverse}
use Rattle.output.specs.Logic.{if, on}
use Rattle.text_rules.specs.Text.{Sym}
use Rattle.tape.specs.Bytes.{part}
use Rattle.tape.specs.Tree.{Head, Node, Nodes, null, bool, int, float, decimal, timestamp, symbol, string, clob, blob, scalar, nest, marker, nil, more, size, encode_sym, encode_scalar, encode_name, encode_head, encode}
use Rattle.tape.specs.Steps.{head_at, size_at}
use Rattle.tape.specs.Fine.{Bytes}
use Rattle.tape.specs.Verdict.{verdict}
use Rattle.tape.specs.Answer.{Outcome, counted, ended, refused}
use Rattle.tape.specs.declared.Frame.TheVariants.{Struct}
use Rattle.field_index.specs.declared.Entry.{Entry}
use Rattle.field_index.specs.declared.Refusal.{Refusal}
use Rattle.field_index.specs.Names.{no_entry, compared_names, name_at, compared_places, before}
use Rattle.field_index.specs.Sorted.{many, Same, filter, reversed, First, Sorted, sorted}
use Rattle.field_index.specs.Structs.{struct_at, fields_from}
use Rattle.field_index.specs.Index.{number, refusal, fields_at, index_at, answered, left, IndexOf}
use Rattle.field_index.specs.Lookup.{sought, named, further, first_with, Within, Finds, is_named, latest_field, looked_by, found_in, looked_as}
use Rattle.field_index.specs.IndexSteps.{children_in, Body}
use Rattle.field_index.proofs.OrderLaws.{names, before_order}
use Rattle.field_index.proofs.SortedLaws.{same_length, sorted-sorted, sorted-same, only_one}
use Rattle.field_index.proofs.StructLaws.{node, next-is}
use Rattle.field_index.proofs.FieldLaws.{its_name, name_long, fields-turn, next_at, its_turn, body_next, one_less, some_left}
use Rattle.field_index.proofs.IndexLaws.{no_refusal, fields_few, fields-of}
use Rattle.field_index.proofs.Located.{held, name_read}

-- ---- the elements that pass a test, in their order

module _ {A : Type 0} (q : A → Bool) where
  many-filter : (p : A → Bool) (l : List A) → many p (filter q l) ≡ many (λ x. if (q x) (p x) false) l
  unfolding filter
  many-filter p [] = refl
  many-filter p (x ∷ l) = go (q x) (many-filter p l)
    where
      go : (b : Bool) → many p (filter q l) ≡ many (λ y. if (q y) (p y) false) l → many p (if b (x ∷ filter q l) (filter q l)) ≡ if (if b (p x) false) 1 0 + many (λ y. if (q y) (p y) false) l
      go true e = ap (λ (n : ℕ). if (p x) 1 0 + n) e
      go false e = e ∙ omega arith

  filter_same : (l m : List A) → Same l m → Same (filter q l) (filter q m)
  filter_same l m s p = many-filter p l ∙ s (λ x. if (q x) (p x) false) ∙ sym (many-filter p m)

  module _ (b : A → A → Bool) where
    filter-first : (x : A) (l : List A) → First b x l → First b x (filter q l)
    unfolding filter
    filter-first x [] f = tt
    filter-first x (y ∷ l) f = go (q y) (filter-first x l f.1)
      where
        go : (c : Bool) → First b x (filter q l) → First b x (if c (y ∷ filter q l) (filter q l))
        go true r = (f.0, r)
        go false r = r

    filter-sorted : (l : List A) → Sorted b l → Sorted b (filter q l)
    unfolding filter
    filter-sorted [] s = tt
    filter-sorted (x ∷ l) s = go (q x) (filter-sorted l s.1)
      where
        go : (c : Bool) → Sorted b (filter q l) → Sorted b (if c (x ∷ filter q l) (filter q l))
        go true r = (filter-first x l s.0, r)
        go false r = r

-- ---- a list from its end

module _ {A : Type 0} where
  many-last : (p : A → Bool) (l : List A) (x : A) → many p (l ++ x ∷ []) ≡ many p (x ∷ l)
  many-last p [] x = refl
  many-last p (y ∷ l) x = let e = many-last p l x in omega arith

  reversed-same : (l : List A) → Same (reversed l) l
  unfolding reversed
  reversed-same [] p = refl
  reversed-same (x ∷ l) p = many-last p (reversed l) x ∙ ap (λ (n : ℕ). if (p x) 1 0 + n) (reversed-same l p)

  module _ (b : A → A → Bool) where
    first-last : (x : A) (l : List A) (y : A) → First b x l → b y x ≡ false → First b x (l ++ y ∷ [])
    first-last x [] y f e = (e, tt)
    first-last x (z ∷ l) y f e = (f.0, first-last x l y f.1 e)

    sorted-last : (l : List A) (x : A) → Sorted b l → First (λ u v. b v u) x l → Sorted b (l ++ x ∷ [])
    sorted-last [] x s f = (tt, tt)
    sorted-last (y ∷ l) x s f = (first-last y l x s.0 f.0, sorted-last l x s.1 f.1)

    first-reversed : (x : A) (l : List A) → First b x l → First b x (reversed l)
    unfolding reversed
    first-reversed x [] f = tt
    first-reversed x (y ∷ l) f = first-last x (reversed l) y (first-reversed x l f.1) f.0

  -- in order from its end
  reversed-sorted : (b : A → A → Bool) (l : List A) → Sorted (λ x y. b y x) l → Sorted b (reversed l)
  unfolding reversed
  reversed-sorted b [] s = tt
  reversed-sorted b (x ∷ l) s = sorted-last b (reversed l) x (reversed-sorted b l s.1) (first-reversed (λ u v. b v u) x l s.0)

abbrev head_as : List Entry → Result (Option Entry) ℕ
head_as [] = Ok None
head_as (x ∷ l) = Ok (Some x)

-- the first that passes is the first of these
first-filter : (q : Entry → Bool) (l : List Entry) → found_in l (first_with q l) ≡ head_as (filter q l)
unfolding filter first_with
first-filter q [] = refl
first-filter q (x ∷ l) = go (q x) (first_with q l) (first-filter q l)
  where
    go : (b : Bool) (r : Option ℕ) → found_in l r ≡ head_as (filter q l) → found_in (x ∷ l) (if b (Some 0) (further r)) ≡ head_as (if b (x ∷ filter q l) (filter q l))
    go true r e = refl
    go false None e = e
    go false (Some k) e = e

-- a node has a byte at least
encoded_some : (n : Node) → 0 < length (encode n)
unfolding encode encode_scalar encode_sym
encoded_some (scalar (null x)) = omega arith
encoded_some (scalar (bool x)) = omega arith
encoded_some (scalar (int x)) = omega arith
encoded_some (scalar (float x)) = omega arith
encoded_some (scalar (decimal x m e)) = omega arith
encoded_some (scalar (timestamp x)) = omega arith
encoded_some (scalar (symbol (Sym.text s))) = omega arith
encoded_some (scalar (symbol (Sym.id i))) = omega arith
encoded_some (scalar (string s)) = omega arith
encoded_some (scalar (clob s)) = omega arith
encoded_some (scalar (blob s)) = omega arith
encoded_some (nest k ns) = omega arith
encoded_some marker = omega arith

pub child_some : (h : Head) (n : Node) → 0 < length (encode_head h ++ encode n)
child_some h n = let a = length-append (encode_head h) (encode n) in let s = encoded_some n in omega arith

-- ---- fields with one name stand in the index from the struct's end

pub equal_of : (w : Ordering) → is_eq w ≡ true → w ≡ Equal
equal_of Less e = cc
equal_of Equal e = refl
equal_of Greater e = cc

-- y comes before x
abbrev comes_later : List ℕ → Entry → Entry → Bool
comes_later t x y = before t y x

module _ (t : List ℕ) (name : Sym) where
  -- of two of them the one with the smaller offset comes last
  not-before : (x y : Entry) → x.name < y.name → named t name x ≡ true → named t name y ≡ true → before t x y ≡ false
  unfolding before sought
  not-before x y h p q = ap (λ (w : Ordering). is_lt (ordering_then w (compared_places y x))) same ∙ ap (λ (w : Ordering). is_lt (ordering_then w (nat_cmp y.value x.value))) (sym (nat_cmp_is y.name x.name Greater h))
    where
      same : compared_names (name_at t x.name) (name_at t y.name) ≡ Equal
      same = names.congr (name_at t x.name) name (name_at t y.name) (equal_of (sought t name x) p) ∙ names.antisymm name (name_at t y.name) ∙ ap ordering_reverse (equal_of (sought t name y) q)

  abbrev has : Entry → Bool
  has e = named t name e

  later_first : (x : Entry) (p : ℕ) (ns : Nodes) → x.name < p → has x ≡ true → First (comes_later t) x (filter has (fields_from p ns))
  unfolding filter fields_from
  later_first x p nil h e = tt
  later_first x p (more g n ns) h e = go (has y) refl (later_first x (p + length (encode_head g ++ encode n)) ns (omega arith) e)
    where
      y : Entry
      y = record { name = p; value = p + length (encode_name g.0) }

      go : (c : Bool) → has y ≡ c → First (comes_later t) x (filter has (fields_from (p + length (encode_head g ++ encode n)) ns)) → First (comes_later t) x (if c (y ∷ filter has (fields_from (p + length (encode_head g ++ encode n)) ns)) (filter has (fields_from (p + length (encode_head g ++ encode n)) ns)))
      go true q r = (not-before x y h e q, r)
      go false q r = r

  in_order : (p : ℕ) (ns : Nodes) → Sorted (comes_later t) (filter has (fields_from p ns))
  unfolding filter fields_from
  in_order p nil = tt
  in_order p (more g n ns) = go (has y) refl (in_order (p + length (encode_head g ++ encode n)) ns)
    where
      y : Entry
      y = record { name = p; value = p + length (encode_name g.0) }

      go : (c : Bool) → has y ≡ c → Sorted (comes_later t) (filter has (fields_from (p + length (encode_head g ++ encode n)) ns)) → Sorted (comes_later t) (if c (y ∷ filter has (fields_from (p + length (encode_head g ++ encode n)) ns)) (filter has (fields_from (p + length (encode_head g ++ encode n)) ns)))
      go true q r = (later_first y (p + length (encode_head g ++ encode n)) ns (let l = child_some g n in omega arith) q, r)
      go false q r = r

  pub other_order : (p : ℕ) (ns : Nodes) → filter has (sorted (before t) (fields_from p ns)) ≡ reversed (filter has (fields_from p ns))
  other_order p ns =
      only_one (before t) (before_order t) (filter has (sorted (before t) (fields_from p ns))) (reversed (filter has (fields_from p ns)))
      (filter-sorted has (before t) (sorted (before t) (fields_from p ns)) (sorted-sorted (before t) (before_order t) (fields_from p ns)))
      (reversed-sorted (before t) (filter has (fields_from p ns)) (in_order p ns))
      (λ q. filter_same has (sorted (before t) (fields_from p ns)) (fields_from p ns) (sorted-same (before t) (fields_from p ns)) q ∙ sym (reversed-same (filter has (fields_from p ns)) q))

  -- ---- the latest field with the name

  -- the last of a list with x in front, where x passes: the list's last, else x
  last_of : (x : Entry) (l : List Entry) (o : maybe.Option Entry) (c : Bool) → head_as (reversed l) ≡ looked_by 0 o → head_as (reversed (if c (x ∷ l) l)) ≡ looked_by 0 (on o maybe.some (if c (maybe.some x) maybe.none))
  unfolding reversed
  last_of x l o false e = e ∙ kept o
    where
      kept : (o : maybe.Option Entry) → looked_by 0 o ≡ looked_by 0 (on o maybe.some maybe.none)
      kept maybe.none = refl
      kept (maybe.some y) = refl
  last_of x l o true e = go (reversed l) o e
    where
      go : (m : List Entry) (o : maybe.Option Entry) → head_as m ≡ looked_by 0 o → head_as (m ++ x ∷ []) ≡ looked_by 0 (on o maybe.some (maybe.some x))
      go [] maybe.none e = refl
      go [] (maybe.some y) e = let z : ◌≡◌ {A = ℕ} 0 1 = cc in absurd (omega arith)
      go (y ∷ m) maybe.none e = let z : ◌≡◌ {A = ℕ} 0 1 = cc in absurd (omega arith)
      go (y ∷ m) (maybe.some z) e = e

  size_none : (ns : Nodes) → size ns ≡ 0 → ns ≡ nil
  unfolding size
  size_none nil e = refl
  size_none (more h n ns) e = absurd (omega arith)

  -- a field, and what stands behind it
  module _ (p e : ℕ) (b : Body t p e) (h : p < e) where
    abbrev x : Entry
    x = record { name = p; value = p + size_at (part t p e) }

    abbrev rest : Nodes
    rest = children_in t (next_at t p e b h) e

    abbrev head : Head
    head = head_at Struct (part t p e)

    abbrev its_node : Node
    its_node = node Struct t p e b.bytes h b.inside b.fine

    named_alike : is_named name head.0 ≡ has x
    unfolding sought
    named_alike =
        let i = its_name t p e b.bytes h b.inside b.fine in
        ap (is_named name) i.name ∙ ap (λ (s : Sym). is_eq (compared_names s name)) (sym (name_read t p e i.it i.count i.read))

    latest_turn : latest_field name p (children_in t p e) ≡ on (latest_field name (next_at t p e b h) rest) maybe.some (if (has x) (maybe.some x) maybe.none)
    unfolding latest_field
    latest_turn =
        ap (latest_field name p) (its_turn t p e b h).nodes
        ∙ ap (λ (c : Bool). on (latest_field name (p + length (encode_head head ++ encode its_node)) rest) maybe.some (if c (maybe.some (record { name = p; value = p + length (encode_name head.0) })) maybe.none)) named_alike
        ∙ ap (λ (m : ℕ). on (latest_field name (p + length (encode_head head ++ encode its_node)) rest) maybe.some (if (has x) (maybe.some (record { name = p; value = p + m })) maybe.none)) (name_long t p e b.bytes h b.inside b.fine)
        ∙ ap (λ (m : ℕ). on (latest_field name m rest) maybe.some (if (has x) (maybe.some x) maybe.none)) (next-is Struct t p e b.bytes h b.inside b.fine)

    behind : head_as (reversed (filter has (fields_from (next_at t p e b h) rest))) ≡ looked_by 0 (latest_field name (next_at t p e b h) rest)
        → head_as (reversed (filter has (fields_from p (children_in t p e)))) ≡ looked_by 0 (latest_field name p (children_in t p e))
    unfolding filter
    behind i =
        ap (λ (l : List Entry). head_as (reversed (filter has l))) (fields-turn t p e b.bytes h b.inside b.fine)
        ∙ last_of x (filter has (fields_from (next_at t p e b h) rest)) (latest_field name (next_at t p e b h) rest) (has x) i
        ∙ ap (looked_by 0) (sym latest_turn)

  -- by the names on the tape and by those of the nodes alike
  field_latest : (n p e : ℕ) → Body t p e → size (children_in t p e) ≡ n → head_as (reversed (filter has (fields_from p (children_in t p e)))) ≡ looked_by 0 (latest_field name p (children_in t p e))
  unfolding filter reversed fields_from latest_field size
  field_latest zero p e b z = rw (size_none (children_in t p e) z) refl
  field_latest (suc n) p e b z =
      let h = some_left t p e b (omega arith) in
      let o = one_less t p e b h in
      behind p e b h (field_latest n (next_at t p e b h) e (body_next t p e b h) (omega arith))

-- ---- a whole lookup

module _ (t : List ℕ) (at : ℕ) (ns : Nodes) (b : Bytes t) (v : verdict t ≡ 0) (s : struct_at t at ≡ maybe.some ns) (name : Sym) where
  index_is : index_at t at ≡ sorted (before t) (fields_from (at + 5) ns)
  unfolding index_at
  index_is = ap (sorted (before t)) (fields-of t at 0 ns s)

  by_nodes : head_as (reversed (filter (named t name) (fields_from (at + 5) ns))) ≡ looked_by 0 (latest_field name (at + 5) ns)
  by_nodes =
      let k = held t at ns b v s in
      subst (λ (m : Nodes). head_as (reversed (filter (named t name) (fields_from (at + 5) m))) ≡ looked_by 0 (latest_field name (at + 5) m)) k.is (field_latest t name (size (children_in t (at + 5) k.stop)) (at + 5) k.stop k.body refl)

  -- the entries of an index that have the name: its fields with the name, the latest first
  pub latest_first : filter (named t name) (index_at t at) ≡ reversed (filter (named t name) (fields_from (at + 5) ns))
  latest_first = ap (filter (named t name)) index_is ∙ other_order t name (at + 5) ns

  -- LOOKUP OVER THE INDEX of a struct: the latest field with the name, in tape order, or none exactly if no field has it
  pub lookup_over_index : (r : Option ℕ) → Finds t name (index_at t at) r → found_in (index_at t at) r ≡ looked_by 0 (latest_field name (at + 5) ns)
  lookup_over_index r f =
      let l : List Entry = sorted (before t) (fields_from (at + 5) ns) in
      let first : r ≡ first_with (named t name) l = subst (λ (m : List Entry). Sorted (before t) m → r ≡ first_with (named t name) m) index_is f.first (sorted-sorted (before t) (before_order t) (fields_from (at + 5) ns)) in
      ap (λ (m : List Entry). found_in m r) index_is ∙ ap (found_in l) first ∙ first-filter (named t name) l ∙ ap head_as (other_order t name (at + 5) ns) ∙ by_nodes

-- ---- an index, and a lookup in its entries, as running code does it

-- a count is one of no refusal
counted_is : (r k n : ℕ) → counted n ≡ answered r k → (r ≡ 0) × (n ≡ k)
counted_is zero k n e = (refl, ap (λ (o : Outcome). numbered o) e)
  where
    numbered : Outcome → ℕ
    numbered (counted n) = n
    numbered ended = 0
    numbered (refused n) = 0
counted_is (suc r) k n e = let y : ◌≡◌ {A = ℕ} 0 1 = cc in absurd (omega arith)

-- an index's fields are no more than the entries
pub count_few : (t : List ℕ) (at : ℕ) (l l' : List Entry) (n : ℕ) → IndexOf t at l l' (Ok n) → n ≤ length l
count_few t at l l' n x =
    let c = counted_is (refusal t at (length l)) (length (fields_at t at)) n x.answer in
    let f = fields_few t at (length l) c.0 in
    omega arith

-- where there is no refusal
module _ (t : List ℕ) (at : ℕ) (name : Sym) (l l' : List Entry) (b : Bytes t) (z : refusal t at (length l) ≡ 0) (e : l' ≡ left (refusal t at (length l)) (index_at t at ++ drop (length (fields_at t at)) l) l) where
  index_long : length (index_at t at) ≡ length (fields_at t at)
  unfolding index_at
  index_long = same_length (sorted (before t) (fields_at t at)) (fields_at t at) (sorted-same (before t) (fields_at t at))

  laid : l' ≡ index_at t at ++ drop (length (fields_at t at)) l
  laid = e ∙ ap (λ (r : ℕ). left r (index_at t at ++ drop (length (fields_at t at)) l) l) z

  part-is : take (length (fields_at t at)) l' ≡ index_at t at
  part-is = ap (take (length (fields_at t at))) laid ∙ take_at (index_at t at) (drop (length (fields_at t at)) l) (length (fields_at t at)) index_long

  entry-is : (f : Option ℕ) → Within (length (index_at t at)) f → found_in l' f ≡ found_in (index_at t at) f
  entry-is None w = refl
  entry-is (Some k) w = ap (λ (m : List Entry). Ok (Some (get_or m k no_entry))) laid ∙ ap (λ (e : Entry). Ok (Some e)) (get_or-append (index_at t at) (drop (length (fields_at t at)) l) no_entry k w)

  found_told : (f : Option ℕ) → Finds t name (take (length (fields_at t at)) l') f → found_in l' f ≡ looked_by 0 (on (struct_at t at) (latest_field name (at + 5)) maybe.none)
  found_told f g =
      let h = subst (λ (m : List Entry). Finds t name m f) part-is g in
      let s = no_refusal t at (length l) z in
      entry-is f h.within ∙ lookup_over_index t at s.nodes b s.tape s.struct name f h ∙ ap (λ (o : maybe.Option Nodes). looked_by 0 (on o (latest_field name (at + 5)) maybe.none)) (sym s.struct)

-- where the index is refused, whatever is looked up
pub refused_told : (t : List ℕ) (at : ℕ) (name : Sym) (l l' : List Entry) (r : Refusal) → IndexOf t at l l' (Err r) → Err (number r) ≡ looked_by (refusal t at (length l)) (on (struct_at t at) (latest_field name (at + 5)) maybe.none)
refused_told t at name l l' r x = go (refusal t at (length l)) (number r) x.answer
  where
    go : (m n : ℕ) → refused n ≡ answered m (length (fields_at t at)) → Err n ≡ looked_by m (on (struct_at t at) (latest_field name (at + 5)) maybe.none)
    go zero n q = cc
    go (suc m) n q = cc

-- INDEX AND LOOKUP: of any entries, indexed, the part that the index fills is handed to a lookup: the index's refusal, or the latest field with the name, in tape order, or none exactly if no field has it
pub look-told : (t : List ℕ) (at : ℕ) (name : Sym) (l l' : List Entry) (i : Result ℕ Refusal) (f : Option ℕ) → Bytes t → IndexOf t at l l' i → Finds t name (take (result_unwrap_or i 0) l') f
    → looked_as i (found_in l' f) ≡ looked_by (refusal t at (length l)) (on (struct_at t at) (latest_field name (at + 5)) maybe.none)
look-told t at name l l' (Ok n) f b x g =
    let c = counted_is (refusal t at (length l)) (length (fields_at t at)) n x.answer in
    found_told t at name l l' b c.0 x.entries f (subst (λ (m : ℕ). Finds t name (take m l') f) c.1 g)
    ∙ ap (λ (r : ℕ). looked_by r (on (struct_at t at) (latest_field name (at + 5)) maybe.none)) (sym c.0)
look-told t at name l l' (Err r) f b x g = refused_told t at name l l' r x
