-- Sorted lists, over any order.
--     sorted-sorted, sorted-same   `sorted` gives the same elements, in order
--     only_one                     two sorted lists of the same elements are one list
--     is_sorted                    so a list in order, with the elements of l, is `sorted b l`
--     by_places                    a list is sorted if no element comes before one at an earlier place
--     at_places                    and the other way round
-- Assumes nothing.
use mathlib.Core.Path.{◌≡◌, refl, sym, ap, ◌∙◌}
use mathlib.Core.Bool.{Bool, true, false, not}
use mathlib.Core.List.{List, [], ◌∷◌}
use Prim.Native.Nat.{ℕ, zero, suc, ◌+◌, ◌<◌}
use native.Mathlib.Omega.{arith}
use lib.ListN.{length, get_or}
use Rattle.output.specs.Logic.{if}
use Rattle.field_index.specs.Sorted.{Order, many, Same, First, Sorted, insert, sorted}

-- all of a list: its length
many-all : {A : Type 0} (l : List A) → many (λ _. true) l ≡ length l
many-all [] = refl
many-all (x ∷ l) = omega (arith, many-all l)

pub same_length : {A : Type 0} (l m : List A) → Same l m → length l ≡ length m
same_length l m e = sym (many-all l) ∙ e (λ _. true) ∙ many-all m

module _ {A : Type 0} (b : A → A → Bool) (o : Order b) where
  pub itself : (x : A) → b x x ≡ false
  itself x = go (b x x) refl
    where
      go : (t : Bool) → b x x ≡ t → b x x ≡ false
      go true e = o.one_way x x e
      go false e = e

  first-all : (x y : A) (l : List A) → b y x ≡ false → First b y l → First b x l
  first-all x y [] h f = tt
  first-all x y (z ∷ l) h f = (o.through x y z h f.0, first-all x y l h f.1)

  -- ---- the insertion sort
  first-insert : (x y : A) (l : List A) → b y x ≡ false → First b x l → First b x (insert b y l)
  unfolding insert
  first-insert x y [] h f = (h, tt)
  first-insert x y (z ∷ l) h f = go (b z y) (first-insert x y l h f.1)
    where
      go : (t : Bool) → First b x (insert b y l) → First b x (if t (z ∷ insert b y l) (y ∷ z ∷ l))
      go true g = (f.0, g)
      go false g = (h, f)

  insert-sorted : (x : A) (l : List A) → Sorted b l → Sorted b (insert b x l)
  unfolding insert
  insert-sorted x [] s = (tt, tt)
  insert-sorted x (y ∷ l) s = go (b y x) refl (insert-sorted x l s.1)
    where
      go : (t : Bool) → b y x ≡ t → Sorted b (insert b x l) → Sorted b (if t (y ∷ insert b x l) (x ∷ y ∷ l))
      go true e g = (first-insert y x l (o.one_way y x e) s.0, g)
      go false e g = ((e, first-all x y l e s.0), s)

  pub sorted-sorted : (l : List A) → Sorted b (sorted b l)
  unfolding sorted
  sorted-sorted [] = tt
  sorted-sorted (x ∷ l) = insert-sorted x (sorted b l) (sorted-sorted l)

  -- ---- there is one sorted list
  -- an element that passes is counted
  counted : (p : A → Bool) (x : A) (l : List A) → p x ≡ true → 0 < many p (x ∷ l)
  counted p x l e = rw e (omega arith)

  -- where something passes the test "does not come behind x", the first element does not
  none-later : (x y : A) (l : List A) → First b y l → b x y ≡ true → many (λ z. not (b x z)) l ≡ 0
  none-later x y [] f h = refl
  none-later x y (z ∷ l) f h = go (b x z) refl (none-later x y l f.1 h)
    where
      go : (t : Bool) → b x z ≡ t → many (λ w. not (b x w)) l ≡ 0 → if (not t) 1 0 + many (λ w. not (b x w)) l ≡ 0
      go true e g = omega arith
      go false e g = let z : ◌≡◌ {A = Bool} true false = sym h ∙ o.through y z x f.0 e in let n : ◌≡◌ {A = ℕ} 0 1 = ap (λ (t : Bool). if t 0 1) z in omega arith

  heads : (x y : A) (l m : List A) → First b y m → Same (x ∷ l) (y ∷ m) → b x y ≡ false
  heads x y l m f e = go (b x y) refl
    where
      go : (t : Bool) → b x y ≡ t → b x y ≡ false
      go false h = h
      go true h =
          let here : ◌≡◌ {A = ℕ} (if (not (b x x)) 1 0) 1 = rw (itself x) in
          let there : ◌≡◌ {A = ℕ} (if (not (b x y)) 1 0) 0 = rw h in
          let n : ◌≡◌ {A = ℕ} 0 1 = omega (arith, e (λ z. not (b x z)), none-later x y m f h) in absurd (omega arith)

  pub only_one : (l m : List A) → Sorted b l → Sorted b m → Same l m → l ≡ m
  only_one [] [] s t e = refl
  only_one [] (y ∷ m) s t e = absurd (omega (arith, same_length [] (y ∷ m) e))
  only_one (x ∷ l) [] s t e = absurd (omega (arith, same_length (x ∷ l) [] e))
  only_one (x ∷ l) (y ∷ m) s t e =
      let q : x ≡ y = o.same x y (heads x y l m t.0 e) (heads y x m l s.0 (λ p. sym (e p))) in
      let rest : Same l m = λ p. (let c : ◌≡◌ {A = ℕ} (if (p x) 1 0) (if (p y) 1 0) = ap (λ (z : A). if (p z) 1 0) q in omega (arith, e p)) in
      (ap (λ (z : A). z ∷ l) q ∙ ap (λ (k : List A). y ∷ k) (only_one l m s.1 t.1 rest))

module _ {A : Type 0} (b : A → A → Bool) where
  insert-many : (p : A → Bool) (x : A) (l : List A) → many p (insert b x l) ≡ if (p x) 1 0 + many p l
  unfolding insert
  insert-many p x [] = refl
  insert-many p x (y ∷ l) = go (b y x) (insert-many p x l)
    where
      go : (t : Bool) → many p (insert b x l) ≡ if (p x) 1 0 + many p l → many p (if t (y ∷ insert b x l) (x ∷ y ∷ l)) ≡ if (p x) 1 0 + (if (p y) 1 0 + many p l)
      go true g = omega arith
      go false g = refl

  pub sorted-same : (l : List A) → Same (sorted b l) l
  unfolding sorted
  sorted-same [] p = refl
  sorted-same (x ∷ l) p = omega (arith, insert-many p x (sorted b l), sorted-same l p)

  -- ---- by places
  first_by : (d x : A) (l : List A) → ((k : ℕ) → k < length l → b (get_or l k d) x ≡ false) → First b x l
  first_by d x [] f = tt
  first_by d x (y ∷ l) f = (f 0 (omega arith), first_by d x l (λ k h. f (suc k) (omega arith)))

  pub by_places : (d : A) (l : List A) → ((i j : ℕ) → i < j → j < length l → b (get_or l j d) (get_or l i d) ≡ false) → Sorted b l
  by_places d [] f = tt
  by_places d (x ∷ l) f = (first_by d x l (λ k h. f 0 (suc k) (omega arith) (omega arith)), by_places d l (λ i j h k. f (suc i) (suc j) (omega arith) (omega arith)))

  first-at : (d x : A) (l : List A) → First b x l → (k : ℕ) → k < length l → b (get_or l k d) x ≡ false
  first-at d x [] f k h = absurd (omega arith)
  first-at d x (y ∷ l) f zero h = f.0
  first-at d x (y ∷ l) f (suc k) h = first-at d x l f.1 k (omega arith)

  pub at_places : (d : A) (l : List A) → Sorted b l → (i j : ℕ) → i < j → j < length l → b (get_or l j d) (get_or l i d) ≡ false
  at_places d [] s i j h k = absurd (omega arith)
  at_places d (x ∷ l) s zero zero h k = absurd (omega arith)
  at_places d (x ∷ l) s zero (suc j) h k = first-at d x l s.0 j (omega arith)
  at_places d (x ∷ l) s (suc i) zero h k = absurd (omega arith)
  at_places d (x ∷ l) s (suc i) (suc j) h k = at_places d l s.1 i j (omega arith) (omega arith)

pub is_sorted : {A : Type 0} (b : A → A → Bool) → Order b → (l m : List A) → Sorted b m → Same m l → m ≡ sorted b l
is_sorted b o l m s e = only_one b o m (sorted b l) s (sorted-sorted b o l) (λ p. e p ∙ sym (sorted-same b l p))
