-- The comparisons of names, of places and of entries are total orders, as std has them (`IsTotalOrder`); `order` makes of one that tells all apart an order as
-- `Sorted` has it. Assumes nothing.
use Rattle.std.proofs.Common.{◌≡◌, refl, sym, ap, ◌∙◌, true, false, ℕ, List}
use Rattle.std.proofs.lemmas.Cmp.{nat_cmp_total, nat_list_cmp_total, on_total, then_total, back_total, upto}
use Rattle.std.proofs.lemmas.Map.Lookups.{exact_unsigned}
use Rattle.std.specs.Cmp.{IsTotalOrder}
use Rattle.std.specs.declared.cmp.Ordering.{Ordering}
use Rattle.std.specs.declared.cmp.Ordering.TheVariants.{Less, Equal, Greater}
use Rattle.std.specs.Ordering.{is_lt, is_gt, is_eq, ordering_reverse, ordering_then, nat_cmp}
use Rattle.text_rules.specs.Text.{Sym}
use Rattle.field_index.specs.declared.Entry.{Entry}
use Rattle.field_index.specs.Names.{compared_names, name_at, compared_places, compared, before}
use Rattle.field_index.specs.Sorted.{Order}

-- ---- names

name_flips : (n m : Sym) → compared_names n m ≡ ordering_reverse (compared_names m n)
name_flips (Sym.id x) (Sym.id y) = nat_cmp_total.antisymm x y
name_flips (Sym.id x) (Sym.text t) = refl
name_flips (Sym.text s) (Sym.id y) = refl
name_flips (Sym.text s) (Sym.text t) = nat_list_cmp_total.antisymm s t

name_chain : (n m o : Sym) → compared_names n m ≡ Less → compared_names m o ≡ Less → compared_names n o ≡ Less
name_chain (Sym.id x) (Sym.id y) (Sym.id z) p q = nat_cmp_total.trans x y z p q
name_chain (Sym.id x) (Sym.id y) (Sym.text r) p q = refl
name_chain (Sym.id x) (Sym.text t) (Sym.id z) p q = cc
name_chain (Sym.id x) (Sym.text t) (Sym.text r) p q = refl
name_chain (Sym.text s) (Sym.id y) o p q = cc
name_chain (Sym.text s) (Sym.text t) (Sym.id z) p q = cc
name_chain (Sym.text s) (Sym.text t) (Sym.text r) p q = nat_list_cmp_total.trans s t r p q

name_alike : (n m o : Sym) → compared_names n m ≡ Equal → compared_names n o ≡ compared_names m o
name_alike (Sym.id x) (Sym.id y) (Sym.id z) e = nat_cmp_total.congr x y z e
name_alike (Sym.id x) (Sym.id y) (Sym.text r) e = refl
name_alike (Sym.id x) (Sym.text t) o e = cc
name_alike (Sym.text s) (Sym.id y) o e = cc
name_alike (Sym.text s) (Sym.text t) (Sym.id z) e = refl
name_alike (Sym.text s) (Sym.text t) (Sym.text r) e = nat_list_cmp_total.congr s t r e

pub names : IsTotalOrder compared_names
names = record { antisymm = name_flips; trans = name_chain; congr = name_alike }

-- ---- the order of a comparison that tells all apart

pub both_equal : (w u : Ordering) → ordering_then w u ≡ Equal → (w ≡ Equal) × (u ≡ Equal)
both_equal Less u e = cc
both_equal Equal u e = (refl, e)
both_equal Greater u e = cc

module _ {A : Type 0} (c : A → A → Ordering) (k : IsTotalOrder c) where
  less_of : (w : Ordering) → is_lt w ≡ true → w ≡ Less
  less_of Less e = refl
  less_of Equal e = cc
  less_of Greater e = cc

  turned_less : (w : Ordering) → is_lt (ordering_reverse w) ≡ is_gt w
  turned_less Less = refl
  turned_less Equal = refl
  turned_less Greater = refl

  greater_is : (x y : A) → is_gt (c x y) ≡ is_lt (c y x)
  greater_is x y = sym (ap is_lt (k.antisymm y x) ∙ turned_less (c x y))

  pub through : (x y z : A) → is_lt (c y x) ≡ false → is_lt (c z y) ≡ false → is_lt (c z x) ≡ false
  through x y z p q = sym (greater_is x z) ∙ upto k x y z (greater_is x y ∙ p) (greater_is y z ∙ q)

  pub order : ((x y : A) → c x y ≡ Equal → x ≡ y) → Order (λ x y. is_lt (c x y))
  order apart = record {
    one_way = λ x y e. ap is_lt (k.antisymm y x ∙ ap ordering_reverse (less_of (c x y) e));
    through = through;
    same = λ x y p q. go x y p q (c x y) refl;
  }
    where
      go : (x y : A) → is_lt (c x y) ≡ false → is_lt (c y x) ≡ false → (w : Ordering) → c x y ≡ w → x ≡ y
      go x y p q Less e = (let h = rw e at p in cc)
      go x y p q Equal e = apart x y e
      go x y p q Greater e = (let h = rw (k.antisymm y x, e) at q in cc)

-- ---- the order of the entries

pub places : IsTotalOrder compared_places
places = then_total (on_total (λ (e : Entry). e.name) nat_cmp_total) (on_total (λ (e : Entry). e.value) nat_cmp_total)

places_apart : (e f : Entry) → compared_places e f ≡ Equal → e ≡ f
places_apart e f p =
    let q = both_equal (nat_cmp e.name f.name) (nat_cmp e.value f.value) p in
    let m : e.name ≡ f.name = exact_unsigned _ _ q.0 in
    let n : e.value ≡ f.value = exact_unsigned _ _ q.1 in
    λ i. record { name = m i; value = n i }

pub before_order : (tape : List ℕ) → Order (before tape)
unfolding before
before_order tape =
    order (compared tape) (then_total (on_total (λ (e : Entry). name_at tape e.name) names) (back_total places))
    (λ e f p. sym (places_apart f e (both_equal (compared_names (name_at tape e.name) (name_at tape f.name)) (compared_places f e) p).1))

-- of different names the names alone decide
pub names_decide : (tape : List ℕ) (e f : Entry) → is_eq (compared_names (name_at tape e.name) (name_at tape f.name)) ≡ false → before tape e f ≡ is_lt (compared_names (name_at tape e.name) (name_at tape f.name))
unfolding before
names_decide tape e f = go (compared_names (name_at tape e.name) (name_at tape f.name))
  where
    go : (w : Ordering) → is_eq w ≡ false → is_lt (ordering_then w (compared_places f e)) ≡ is_lt w
    go Less h = refl
    go Equal h = cc
    go Greater h = refl
