-- Binary search, a turn at a time, over any comparison of an element with what is looked for.
--     Rises         the elements that are less come first, those that are greater last
--     Good          a range that still holds the answer
--     begins, turn  at the start, and a turn
--     place-within, place_is   the answer, once nothing is left
--     searched-is   a search among fewer than 2 ^ k elements is over after at most k comparisons
--     sorted_rises  a sorted list rises, for every name
-- Assumes nothing.
use mathlib.Core.Path.{◌≡◌, refl, sym, ap, subst, ◌∙◌}
use mathlib.Core.Bool.{Bool, true, false}
use mathlib.Core.List.{List, [], ◌∷◌}
use mathlib.Core.Option.{some}
use Prim.Native.Nat.{ℕ, zero, suc, ◌+◌, ◌-◌, ◌/◌, ◌^◌, ◌≤◌, ◌<◌}
use native.Mathlib.Nat.{pow-suc}
use native.Mathlib.Omega.{arith}
use native.Mathlib.Decide.{ℕ_discrete, dec_lt}
use lib.Dec.{ltb}
use lib.ListN.{length, get_or}
use borrow.Author.Tests.{ltb-true, ltb-false, le-ltb}
use Rattle.std.specs.Prelude.{None, Some}
use Rattle.std.specs.Cmp.{IsTotalOrder}
use Rattle.std.specs.declared.cmp.Ordering.{Ordering}
use Rattle.std.specs.declared.cmp.Ordering.TheVariants.{Less, Equal, Greater}
use Rattle.std.specs.Ordering.{is_lt, is_eq, ordering_then, ordering_reverse}
use Rattle.output.specs.Logic.{if}
use Rattle.text_rules.specs.Text.{Sym}
use Rattle.field_index.specs.declared.Entry.{Entry}
use Rattle.field_index.specs.declared.search.Range.{Range}
use Rattle.field_index.specs.Names.{no_entry, compared_names, name_at, compared_places, before}
use Rattle.field_index.specs.Sorted.{Sorted}
use Rattle.field_index.specs.Lookup.{sought, named, further, first_with, Within, Finds}
use Rattle.field_index.specs.SearchSteps.{range_of, narrowed_of, answer_of, searched}
use Rattle.field_index.proofs.SortedLaws.{at_places}
use Rattle.field_index.proofs.OrderLaws.{names, through}

-- ---- the first element that passes
first-at : {A : Type 0} (d : A) (q : A → Bool) (l : List A) (m : ℕ) → m < length l → ((k : ℕ) → k < m → q (get_or l k d) ≡ false) → q (get_or l m d) ≡ true → Some m ≡ first_with q l
unfolding first_with
first-at d q [] m h f e = absurd (omega arith)
first-at d q (x ∷ l) zero h f e = rw e
first-at d q (x ∷ l) (suc m) h f e = rw (f 0 (omega arith)) (ap further (first-at d q l m (omega arith) (λ k g. f (suc k) (omega arith)) e))

first-none : {A : Type 0} (d : A) (q : A → Bool) (l : List A) → ((k : ℕ) → k < length l → q (get_or l k d) ≡ false) → None ≡ first_with q l
unfolding first_with
first-none d q [] f = refl
first-none d q (x ∷ l) f = rw (f 0 (omega arith)) (ap further (first-none d q l (λ k g. f (suc k) (omega arith))))

module _ {A : Type 0} (d : A) (c : A → Ordering) (l : List A) where
  abbrev pub Rises : Type 0
  Rises = (i j : ℕ) → i ≤ j → j < length l → (c (get_or l j d) ≡ Less → c (get_or l i d) ≡ Less) × (c (get_or l i d) ≡ Greater → c (get_or l j d) ≡ Greater)

  -- what a range says of the list: what lies before it is less, what lies behind it is not, and `same` tells of the first behind it
  pub record Holds (r : Range) : Type 0 where
    pub passed : (k : ℕ) → k < r.lo → c (get_or l k d) ≡ Less
    pub failed : (k : ℕ) → r.hi ≤ k → k < length l → c (get_or l k d) ≡ Less → ⊥
    pub yes-same : r.same ≡ true → c (get_or l r.hi d) ≡ Equal
    pub no_same : r.same ≡ false → r.hi < length l → c (get_or l r.hi d) ≡ Greater

  pub record Good (r : Range) : Type 0 where
    pub ordered : r.lo ≤ r.hi
    pub inside : r.hi ≤ length l
    pub behind : r.same ≡ true → r.hi < length l
    pub middle : r.mid ≡ r.lo + (r.hi - r.lo) / 2
    pub holds : Rises → Holds r

  pub begins : Good (range_of 0 (length l) false)
  begins = record {
    ordered = omega arith;
    inside = omega arith;
    behind = λ e. cc;
    middle = refl;
    holds = λ _. record { passed = λ k h. absurd (omega arith); failed = λ k h g e. absurd (omega arith); yes-same = λ e. cc; no_same = λ e h. absurd (omega arith) };
  }

  pub middle_in : (r : Range) → Good r → r.lo < r.hi → (r.lo ≤ r.mid) × (r.mid < r.hi)
  middle_in r g h = (omega (arith, g.middle), omega (arith, g.middle))

  -- one turn, by how the middle compares
  module _ (r : Range) (g : Good r) (some : r.lo < r.hi) where
    M : (r.lo ≤ r.mid) × (r.mid < r.hi)
    M = middle_in r g some

    abbrev Onward : Range → Type 0
    Onward t = Good t × (t.hi - t.lo < r.hi - r.lo)

    turned_by : (w : Ordering) → c (get_or l r.mid d) ≡ w → Onward (narrowed_of w r)
    turned_by Less e = (
      record {
        ordered = omega (arith, M.1);
        inside = g.inside;
        behind = g.behind;
        middle = refl;
        holds = λ up. record { passed = λ k h. (up k r.mid (omega arith) (omega (arith, M.1, g.inside))).0 e; failed = (g.holds up).failed; yes-same = (g.holds up).yes-same; no_same = (g.holds up).no_same };
      },
      omega (arith, M.0, M.1),
    )
    turned_by Equal e = (
      record {
        ordered = M.0;
        inside = omega (arith, M.1, g.inside);
        behind = λ _. omega (arith, M.1, g.inside);
        middle = refl;
        holds = λ up. record { passed = (g.holds up).passed; failed = λ k h m f. (let q = (up r.mid k h m).0 f in cc); yes-same = λ _. e; no_same = λ p h. cc };
      },
      omega (arith, M.0, M.1),
    )
    turned_by Greater e = (
      record {
        ordered = M.0;
        inside = omega (arith, M.1, g.inside);
        behind = λ p. cc;
        middle = refl;
        holds = λ up. record { passed = (g.holds up).passed; failed = λ k h m f. (let q = (up r.mid k h m).0 f in cc); yes-same = λ p. cc; no_same = λ _ h. e };
      },
      omega (arith, M.0, M.1),
    )

    pub turn : Onward (narrowed_of (c (get_or l r.mid d)) r)
    turn = turned_by (c (get_or l r.mid d)) refl

  -- ---- the end
  module _ (r : Range) (g : Good r) (over : r.hi ≤ r.lo) where
    meet : r.hi ≡ r.lo
    meet = omega (arith, g.ordered)

    -- a range whose `same` is set has an entry behind it, whether the list rises or not
    pub place-within : Within (length l) (answer_of r)
    place-within = go r.same refl
      where
        go : (t : Bool) → r.same ≡ t → Within (length l) (if t (Some r.lo) None)
        go true e = omega (arith, g.behind e, meet)
        go false e = tt

    pub place_is : Rises → answer_of r ≡ first_with (λ e. is_eq (c e)) l
    place_is up = go r.same refl
      where
        go : (t : Bool) → r.same ≡ t → if t (Some r.lo) None ≡ first_with (λ e. is_eq (c e)) l
        go true e =
            first-at d (λ x. is_eq (c x)) l r.lo (omega (arith, g.behind e, meet)) (λ k h. ap is_eq ((g.holds up).passed k h)) (ap is_eq (subst (λ (m : ℕ). c (get_or l m d) ≡ Equal) meet ((g.holds up).yes-same e)))
        go false e = first-none d (λ x. is_eq (c x)) l each
          where
            each : (k : ℕ) → k < length l → is_eq (c (get_or l k d)) ≡ false
            each k h = by (dec_lt k r.lo)
              where
                by : Dec (k < r.lo) → is_eq (c (get_or l k d)) ≡ false
                by (yes m) = ap is_eq ((g.holds up).passed k m)
                by (no n) = ap is_eq ((up r.hi k (omega (arith, meet)) h).1 ((g.holds up).no_same e (omega (arith, meet))))

  -- ---- how many comparisons: each leaves at most half
  halves : (w : Ordering) (r : Range) → r.mid ≡ r.lo + (r.hi - r.lo) / 2 → r.lo < r.hi → (narrowed_of w r).hi - (narrowed_of w r).lo ≤ (r.hi - r.lo) / 2
  halves Less r m h = omega (arith, m)
  halves Equal r m h = omega (arith, m)
  halves Greater r m h = omega (arith, m)

  searched-from : (k : ℕ) (r : Range) → Good r → r.hi - r.lo < 2 ^ k → Rises → searched k c d l r ≡ some (first_with (λ e. is_eq (c e)) l)
  unfolding searched
  searched-from zero r g few up = rw (le-ltb r.lo r.hi (omega arith)) (ap some (place_is r g (omega arith) up))
  searched-from (suc k) r g few up = go (ltb r.lo r.hi) refl
      (λ h. searched-from k (narrowed_of (c (get_or l r.mid d)) r) (turn r g h).0 (omega (arith, pow-suc 2 k, halves (c (get_or l r.mid d)) r g.middle h)) up)
    where
      go : (t : Bool) → ltb r.lo r.hi ≡ t → (r.lo < r.hi → searched k c d l (narrowed_of (c (get_or l r.mid d)) r) ≡ some (first_with (λ e. is_eq (c e)) l))
          → if t (searched k c d l (narrowed_of (c (get_or l r.mid d)) r)) (some (answer_of r)) ≡ some (first_with (λ e. is_eq (c e)) l)
      go true e ih = ih (ltb-true r.lo r.hi e)
      go false e ih = ap some (place_is r g (ltb-false r.lo r.hi e) up)

-- ---- A sorted list rises: over any order by a key and then by anything else, so the tie rule does not matter.
module _ {A K : Type 0} (none₀ : A) (k : A → K) (c : K → K → Ordering) (C : IsTotalOrder c) (d : A → A → Ordering) (key : K) where
  keys-not : (e f : A) → is_lt (ordering_then (c (k e) (k f)) (d e f)) ≡ false → is_lt (c (k e) (k f)) ≡ false
  keys-not e f p = go (c (k e) (k f)) p
    where
      go : (w : Ordering) → is_lt (ordering_then w (d e f)) ≡ false → is_lt w ≡ false
      go Less q = q
      go Equal q = refl
      go Greater q = refl

  less_down : (x y : K) → is_lt (c y x) ≡ false → c y key ≡ Less → c x key ≡ Less
  less_down x y p q = go (c x key) refl
    where
      none_less : is_lt (c x key) ≡ false → ⊥
      none_less e = let n : ◌≡◌ {A = ℕ} 0 1 = ap (λ (t : Bool). if t 0 1) (sym (ap is_lt q) ∙ through c C key x y e p) in omega arith

      go : (w : Ordering) → c x key ≡ w → c x key ≡ Less
      go Less e = e
      go Equal e = absurd (none_less (ap is_lt e))
      go Greater e = absurd (none_less (ap is_lt e))

  greater_up : (x y : K) → is_lt (c y x) ≡ false → c x key ≡ Greater → c y key ≡ Greater
  greater_up x y p q = go (c y key) refl
    where
      go : (w : Ordering) → c y key ≡ w → c y key ≡ Greater
      go Less e = let n = less_down x y p e in cc
      go Equal e = let n : ◌≡◌ {A = ℕ} 0 1 = ap (λ (t : Bool). if t 0 1) (sym (ap is_lt (C.congr y key x e ∙ C.antisymm key x ∙ ap ordering_reverse q)) ∙ p) in absurd (omega arith)
      go Greater e = e

  pub sorted_rises : (l : List A) → Sorted (λ e f. is_lt (ordering_then (c (k e) (k f)) (d e f))) l → Rises none₀ (λ e. c (k e) key) l
  sorted_rises l s i j h b = go (ℕ_discrete i j)
    where
      go : Dec (i ≡ j) → (c (k (get_or l j none₀)) key ≡ Less → c (k (get_or l i none₀)) key ≡ Less) × (c (k (get_or l i none₀)) key ≡ Greater → c (k (get_or l j none₀)) key ≡ Greater)
      go (yes p) = ((λ e. subst (λ (m : ℕ). c (k (get_or l m none₀)) key ≡ Less) (sym p) e), (λ e. subst (λ (m : ℕ). c (k (get_or l m none₀)) key ≡ Greater) p e))
      go (no n) =
          let q = keys-not (get_or l j none₀) (get_or l i none₀) (at_places (λ e f. is_lt (ordering_then (c (k e) (k f)) (d e f))) none₀ l s i j (omega arith) b) in
          (less_down (k (get_or l i none₀)) (k (get_or l j none₀)) q, greater_up (k (get_or l i none₀)) (k (get_or l j none₀)) q)

-- ---- the entries
index_rises : (tape : List ℕ) (name : Sym) (l : List Entry) → Sorted (before tape) l → Rises no_entry (sought tape name) l
unfolding before sought
index_rises tape name l s = sorted_rises no_entry (λ e. name_at tape e.name) compared_names names (λ e f. compared_places f e) name l s

-- A search of a sorted list of fewer than 2 ^ k entries is over after at most k comparisons of names, and answers the place of the first with the name.
pub searched-is : (tape : List ℕ) (name : Sym) (k : ℕ) (l : List Entry) → length l < 2 ^ k → Sorted (before tape) l
    → searched k (sought tape name) no_entry l (range_of 0 (length l) false) ≡ some (first_with (named tape name) l)
searched-is tape name k l few s = searched-from no_entry (sought tape name) l k (range_of 0 (length l) false) (begins no_entry (sought tape name) l) (omega arith) (index_rises tape name l s)

pub found : (tape : List ℕ) (name : Sym) (l : List Entry) (r : Range) → Good no_entry (sought tape name) l r → r.hi ≤ r.lo → Finds tape name l (answer_of r)
found tape name l r g over = record { within = place-within no_entry (sought tape name) l r g over; first = λ s. place_is no_entry (sought tape name) l r g over (index_rises tape name l s) }
